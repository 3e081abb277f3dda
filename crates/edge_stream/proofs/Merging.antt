-- Two lists of edges that are read in turn.
use Rattle.std.proofs.Common.{◌≡◌, ◌≤◌, ◌↔◌, ℕ, ◌+◌, true, false, Option, Some, None, List, [], ◌∷◌, ◌++◌, refl, ap, sym, ◌∙◌, subst, arith, append_assoc}
use Rattle.std.specs.Prelude.{All, IsNone, IsSome, IfSome}
use Rattle.std.proofs.lemmas.List.Elements.{All-nil, All-cons, All-head, All-tail, All-append}
use Rattle.tw_rows.specs.Bag.{total}
use Rattle.tw_rows.proofs.Bags.{total-append}
use Rattle.tw_rows.specs.declared.edge.Edge.{Edge}
use Rattle.edge_history.specs.Order.{rank, Rises, IsReal, KeepsOrder}
use Rattle.edge_history.proofs.Keeping.{KeepsOrder-front}

-- a list that is not empty has a first edge
pub with_head : {R : Type 0} (es : List Edge) → (es ≡ [] → ⊥) → ((e : Edge) (rest : List Edge) → es ≡ e ∷ rest → R) → R
with_head [] some f = absurd (some refl)
with_head (e ∷ rest) some f = f e rest refl

-- a rank that is there is that of a first edge
pub some_edge : (r : Option ℕ) (es : List Edge) → IsSome r → (IsNone r ↔ (es ≡ [])) → es ≡ [] → ⊥
some_edge None es some none e = absurd (cc)
some_edge (Some r) es some none e = let wrong : true ≡ false = none.1 e in absurd (cc)

pub no_edge : (r : Option ℕ) (es : List Edge) → r ≡ None → (IsNone r ↔ (es ≡ [])) → es ≡ []
no_edge r es e none = none.0 (subst IsNone (sym e) refl)

-- the first edge of one list, whose rank is at most that of the other one's, comes first
pub low_first : (l r : Option ℕ) (x : Edge) (xs ys : List Edge) → IsSome l → ((a b : ℕ) → l ≡ Some a → r ≡ Some b → a ≤ b) →
    IfSome l (λ a. (e : Edge) (rest : List Edge) → x ∷ xs ≡ e ∷ rest → a ≡ rank e) → (IsNone r ↔ (ys ≡ [])) →
    IfSome r (λ b. (e : Edge) (rest : List Edge) → ys ≡ e ∷ rest → b ≡ rank e) → (y : Edge) (rest : List Edge) → ys ≡ y ∷ rest → rank x ≤ rank y
low_first None r x xs ys some low here none there y rest is = absurd (cc)
low_first (Some a) None x xs ys some low here none there y rest is = let wrong : ys ≡ [] = none.0 refl in absurd (cc)
low_first (Some a) (Some b) x xs ys some low here none there y rest is = omega (arith, low a b refl refl, here x xs refl, there y rest is)

rises_low : (r : ℕ) (x : Edge) (ys : List Edge) → r ≤ rank x → Rises r ys → ((y : Edge) (rest : List Edge) → ys ≡ y ∷ rest → rank x ≤ rank y) → Rises r (x ∷ ys)
rises_low r x [] le h low = (le, tt)
rises_low r x (y ∷ ys) le h low = (le, (low y ys refl, h.1))

rises_between : (r : ℕ) (out : List Edge) (x : Edge) (xs ys : List Edge) → Rises r (out ++ x ∷ xs) → Rises r (out ++ ys) →
    ((y : Edge) (rest : List Edge) → ys ≡ y ∷ rest → rank x ≤ rank y) → Rises r (out ++ x ∷ ys)
rises_between r [] x xs ys one two low = rises_low r x ys one.0 two low
rises_between r (o ∷ out) x xs ys one two low = (one.0, rises_between (rank o) out x xs ys one.1 two.1 low)

All-left : (out xs : List Edge) → All IsReal (out ++ xs) → All IsReal out
All-left [] xs h = All-nil IsReal
All-left (o ∷ out) xs h = All-cons IsReal o out (All-head IsReal o (out ++ xs) h) (All-left out xs (All-tail IsReal o (out ++ xs) h))

All-right : (out xs : List Edge) → All IsReal (out ++ xs) → All IsReal xs
All-right [] xs h = h
All-right (o ∷ out) xs h = All-right out xs (All-tail IsReal o (out ++ xs) h)

-- an edge goes over from one list, and both still come after what is there
module _ (out new : List Edge) (x : Edge) (xs rest : List Edge) (added : new ≡ out ++ x ∷ []) (left : rest ≡ xs) where
  pub order_same : KeepsOrder (out ++ x ∷ xs) → KeepsOrder (new ++ rest)
  order_same h = subst KeepsOrder (sym ((λ i. added i ++ left i) ∙ append_assoc out (x ∷ []) xs)) h

  pub order_other : (ys : List Edge) → KeepsOrder (out ++ x ∷ xs) → KeepsOrder (out ++ ys) → ((y : Edge) (rest : List Edge) → ys ≡ y ∷ rest → rank x ≤ rank y) → KeepsOrder (new ++ ys)
  order_other ys one two low =
      let whole : KeepsOrder (out ++ x ∷ ys) = record {
        rises = rises_between 0 out x xs ys one.rises two.rises low;
        real = All-append IsReal out (x ∷ ys) (All-left out ys two.real) (All-cons IsReal x ys (All-head IsReal x xs (All-right out (x ∷ xs) one.real)) (All-right out ys two.real));
      } in
      subst KeepsOrder (sym (ap (λ l. l ++ ys) added ∙ append_assoc out (x ∷ []) ys)) whole

  pub weigh_over : (w : Edge → ℕ) → total w new + total w rest ≡ total w out + total w (x ∷ xs)
  weigh_over w = omega (arith, ap (total w) added, ap (total w) left, total-append w out (x ∷ []))

-- the first edge alone keeps the order
pub first_keeps : (out : List Edge) (x : Edge) (xs : List Edge) → KeepsOrder (out ++ x ∷ xs) → KeepsOrder (out ++ x ∷ [])
first_keeps out x xs h =
    let whole : KeepsOrder ((out ++ x ∷ []) ++ xs) = subst KeepsOrder (sym (append_assoc out (x ∷ []) xs)) h in
    KeepsOrder-front (out ++ x ∷ []) xs whole
