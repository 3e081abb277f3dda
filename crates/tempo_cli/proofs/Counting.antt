-- Where checkpoints are due.
use Rattle.std.proofs.Common.{◌≡◌, ◌≤◌, ◌+◌, ◌++◌, ℕ, zero, suc, List, [], ◌∷◌, length, take, Bool, true, false, cond, inl, inr, refl, sym, ◌∙◌, ap, subst, arith, append_assoc, append-nil}
use Rattle.std.specs.Prelude.{nat_le}
use Rattle.std.proofs.lemmas.List.{length-append, take-append-le}
use Rattle.std.proofs.Math.Seq.{take-length}
use Rattle.tempo_cli.specs.Answers.{IsFront}
use Rattle.tempo_cli.specs.Restoring.{AreFront}
use Rattle.tempo_cli.proofs.Fronts.{le_or_lt}
use Rattle.tempo_cli.specs.Keeping.{Task, Marks, due, due_in, last_behind, all_counts}

-- it is told by the punctuations behind the first lines
pub due_same : (every : ℕ) (f g : ℕ → ℕ) (k : ℕ) → ((n : ℕ) → n ≤ k → f n ≡ g n) → due every f k ≡ due every g k
due_same every f g zero same = ap (λ (x : ℕ). record { punct = x; counts = 0 ∷ [] }) (same 0 (omega arith))
due_same every f g (suc k) same =
    let d = due_same every f g k (λ n low. same n (omega arith)) in
    let e = same (suc k) (omega arith) in
    ap (λ (m : Marks). cond (nat_le (m.punct + every) (f (suc k))) (record { punct = f (suc k); counts = m.counts ++ suc k ∷ [] }) m) d
    ∙ ap (λ (x : ℕ). cond (nat_le ((due every g k).punct + every) x) (record { punct = x; counts = (due every g k).counts ++ suc k ∷ [] }) (due every g k)) e

pub front_on : (a b c : List ℕ) → IsFront a b → IsFront b c → IsFront a c
front_on a b c f g = (f.0 ++ g.0, g.1 ∙ (ap (λ x. x ++ g.0) f.1 ∙ append_assoc a f.0 g.0))

step_front : (t : Bool) (m : Marks) (x n : ℕ) → IsFront m.counts (cond t (record { punct = x; counts = m.counts ++ n ∷ [] }) m).counts
step_front true m x n = (n ∷ [], refl)
step_front false m x n = ([], sym (append-nil m.counts))

-- more lines make more of them due, behind those
pub due_front : (every : ℕ) (f : ℕ → ℕ) (k m : ℕ) → k ≤ m → IsFront (due every f k).counts (due every f m).counts
due_front every f k zero low = let e : 0 ≡ k = omega arith in subst (λ n. IsFront (due every f n).counts (0 ∷ [])) e ([], refl)
due_front every f k (suc m) low = elim (le_or_lt (suc m) k) [
  | inl all ↦ let e : suc m ≡ k = omega arith in subst (λ n. IsFront (due every f n).counts (due every f (suc m)).counts) e ([], sym (append-nil (due every f (suc m)).counts))
  | inr some ↦ front_on (due every f k).counts (due every f m).counts (due every f (suc m)).counts (due_front every f k m (omega arith))
      (step_front (nat_le ((due every f m).punct + every) (f (suc m))) (due every f m) (f (suc m)) (suc m))
]

-- of first lines they are those of all lines
pub due_within : (t : Task) (every : ℕ) (given more : List (List ℕ)) (k : ℕ) → k ≤ length given → due_in t every given k ≡ due_in t every (given ++ more) k
due_within t every given more k low = due_same every (λ n. last_behind t (take n given)) (λ n. last_behind t (take n (given ++ more))) k
    (λ n below. ap (last_behind t) (sym (take-append-le n given more (omega arith))))

pub given_front : (t : Task) (every : ℕ) (given ls : List (List ℕ)) → AreFront given ls → IsFront (due_in t every given (length given)).counts (all_counts t every ls)
given_front t every given ls front =
    let e : due_in t every given (length given) ≡ due_in t every ls (length given) =
    due_within t every given front.0 (length given) (omega arith) ∙ ap (λ x. due_in t every x (length given)) (sym front.1) in
    let low : length given ≤ length ls = omega (arith, ap length front.1, length-append given front.0) in
    front_on _ (due_in t every ls (length ls)).counts _
    (subst (λ (m : Marks). IsFront m.counts (due_in t every ls (length ls)).counts) (sym e) (due_front every (λ n. last_behind t (take n ls)) (length given) (length ls) low))
    (length ls ∷ [], refl)

-- with one line more
pub due_more : (t : Task) (every : ℕ) (given : List (List ℕ)) (line : List ℕ) →
    due_in t every (given ++ line ∷ []) (length (given ++ line ∷ [])) ≡ cond (nat_le ((due_in t every given (length given)).punct + every) (last_behind t (given ++ line ∷ [])))
    (record { punct = last_behind t (given ++ line ∷ []); counts = (due_in t every given (length given)).counts ++ length (given ++ line ∷ []) ∷ [] }) (due_in t every given (length given))
due_more t every given line =
    let n : length (given ++ line ∷ []) ≡ suc (length given) = omega (arith, length-append given (line ∷ [])) in
    let all : last_behind t (take (suc (length given)) (given ++ line ∷ [])) ≡ last_behind t (given ++ line ∷ []) =
    ap (λ k. last_behind t (take k (given ++ line ∷ []))) (sym n) ∙ ap (last_behind t) (take-length (given ++ line ∷ [])) in
    let before : due_in t every (given ++ line ∷ []) (length given) ≡ due_in t every given (length given) = sym (due_within t every given (line ∷ []) (length given) (omega arith)) in
    ap (due_in t every (given ++ line ∷ [])) n
    ∙ (ap (λ (m : Marks). cond (nat_le (m.punct + every) (last_behind t (take (suc (length given)) (given ++ line ∷ []))))
    (record { punct = last_behind t (take (suc (length given)) (given ++ line ∷ [])); counts = m.counts ++ suc (length given) ∷ [] }) m) before
    ∙ (ap (λ (x : ℕ). cond (nat_le ((due_in t every given (length given)).punct + every) x) (record { punct = x; counts = (due_in t every given (length given)).counts ++ suc (length given) ∷ [] }) (due_in t every given (length given))) all
    ∙ ap (λ (k : ℕ). cond (nat_le ((due_in t every given (length given)).punct + every) (last_behind t (given ++ line ∷ [])))
    (record { punct = last_behind t (given ++ line ∷ []); counts = (due_in t every given (length given)).counts ++ k ∷ [] }) (due_in t every given (length given))) (sym n)))

-- where the line makes one due, and where it does not
pub due_now : (t : Task) (every : ℕ) (given : List (List ℕ)) (line : List ℕ) → nat_le ((due_in t every given (length given)).punct + every) (last_behind t (given ++ line ∷ [])) ≡ true →
    due_in t every (given ++ line ∷ []) (length (given ++ line ∷ [])) ≡ record { punct = last_behind t (given ++ line ∷ []); counts = (due_in t every given (length given)).counts ++ length (given ++ line ∷ []) ∷ [] }
due_now t every given line is = due_more t every given line ∙ ap (λ (b : Bool). cond b (record { punct = last_behind t (given ++ line ∷ []); counts = (due_in t every given (length given)).counts ++ length (given ++ line ∷ []) ∷ [] }) (due_in t every given (length given))) is

pub due_not_yet : (t : Task) (every : ℕ) (given : List (List ℕ)) (line : List ℕ) → nat_le ((due_in t every given (length given)).punct + every) (last_behind t (given ++ line ∷ [])) ≡ false →
    due_in t every (given ++ line ∷ []) (length (given ++ line ∷ [])) ≡ due_in t every given (length given)
due_not_yet t every given line is = due_more t every given line ∙ ap (λ (b : Bool). cond b (record { punct = last_behind t (given ++ line ∷ []); counts = (due_in t every given (length given)).counts ++ length (given ++ line ∷ []) ∷ [] }) (due_in t every given (length given))) is
