-- Lines in front of lines.
use Rattle.std.proofs.Common.{◌≡◌, ◌⊎◌, ◌≤◌, ◌<◌, ℕ, zero, suc, List, [], ◌∷◌, ◌++◌, length, inl, inr, refl, sym, ◌∙◌, ap, arith, append_assoc}
use Rattle.std.specs.List.{All}
use Rattle.std.proofs.lemmas.Bool.Decides.{leb_tells}
use Rattle.std.proofs.lemmas.List.{length-append}
use Rattle.tempo_cli.specs.Restoring.{AreFront}

-- one of two numbers is no greater than the other
pub le_or_lt : (a b : ℕ) → (a ≤ b) ⊎ (b < a)
le_or_lt a b = elim (leb_tells a b) [ inl h ↦ inl h.1 | inr h ↦ inr h.1 ]

heads : {X : Type 0} (x y : X) (xs ys : List X) → x ∷ xs ≡ y ∷ ys → x ≡ y
heads x y xs ys e = cc

tails : {X : Type 0} (x y : X) (xs ys : List X) → x ∷ xs ≡ y ∷ ys → xs ≡ ys
tails x y xs ys e = cc

front_by : (A B r s : List (List ℕ)) → A ++ r ≡ B ++ s → length A ≤ length B → AreFront A B
front_by [] B r s e low = (B, refl)
front_by (x ∷ A) [] r s e low = absurd (omega arith)
front_by (x ∷ A) (y ∷ B) r s e low =
    let f = front_by A B r s (tails x y (A ++ r) (B ++ s) e) (omega arith) in
    (f.0, ap (λ z. z ∷ B) (sym (heads x y (A ++ r) (B ++ s) e)) ∙ ap (λ l. x ∷ l) f.1)

-- of two that stand in front of the same lines, the shorter one stands in front of the other
pub shorter_front : (A B ls : List (List ℕ)) → AreFront A ls → AreFront B ls → length A ≤ length B → AreFront A B
shorter_front A B ls a b low = front_by A B a.0 b.0 (sym a.1 ∙ b.1) low

pub front_length : (A B : List (List ℕ)) → AreFront A B → length A ≤ length B
front_length A B f = omega (arith, ap length f.1, length-append A f.0)

pub front_again : (A B C : List (List ℕ)) → AreFront A B → AreFront B C → AreFront A C
front_again A B C f g = (f.0 ++ g.0, g.1 ∙ (ap (λ x. x ++ g.0) f.1 ∙ append_assoc A f.0 g.0))

-- what holds of all holds of the last one, and of all in front
pub last_all : (P : List ℕ → Type 0) (xs : List (List ℕ)) (x : List ℕ) → All P (xs ++ x ∷ []) → P x
last_all P [] x h = h 0 x (omega arith)
last_all P (y ∷ xs) x h = last_all P xs x (λ k d low. h (suc k) d (omega arith))

pub front_all : (P : List ℕ → Type 0) (xs ys : List (List ℕ)) → All P (xs ++ ys) → All P xs
front_all P [] ys h k d low = absurd (omega arith)
front_all P (x ∷ xs) ys h zero d low = h 0 d (omega arith)
front_all P (x ∷ xs) ys h (suc k) d low = front_all P xs ys (λ i b l. h (suc i) b (omega arith)) k d (omega arith)
