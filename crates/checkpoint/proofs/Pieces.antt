-- The pieces of a query.
use Rattle.std.proofs.Common.{◌≡◌, ◌<◌, ◌≤◌, ℕ, zero, suc, List, [], ◌∷◌, ◌++◌, length, map, take, drop, refl, sym, ◌∙◌, ap, arith, append_assoc, length-drop, inl, inr}
use Rattle.std.specs.Prelude.{min, ◌==◌, true, false}
use Rattle.std.proofs.lemmas.Bool.Decides.{eqb_tells}
use Rattle.std.proofs.lemmas.List.{append-nil, take_all}
use Rattle.checkpoint.specs.Lines.{query_line}
use Rattle.checkpoint.specs.Form.{most_of_query, pieces}

-- the lines so far, and those of the pieces of the rest, are all
pub record IsCut (done : List (List ℕ)) (rest : List ℕ) (all : List (List ℕ)) : Type 0 where
  pub left : ℕ
  pub enough : length rest ≤ left
  pub lines : done ++ map query_line (pieces left rest) ≡ all

-- one piece more
pub cut_more : (done : List (List ℕ)) (rest : List ℕ) (all : List (List ℕ)) → 0 < length rest → IsCut done rest all →
    IsCut (done ++ query_line (take most_of_query rest) ∷ []) (drop most_of_query rest) all
cut_more done [] all some is = absurd (omega (arith, some))
cut_more done (b ∷ bs) all some is = by is.left is.enough is.lines
  where
    by : (n : ℕ) → length (b ∷ bs) ≤ n → done ++ map query_line (pieces n (b ∷ bs)) ≡ all → IsCut (done ++ query_line (take most_of_query (b ∷ bs)) ∷ []) (drop most_of_query (b ∷ bs)) all
    by zero low e = absurd (omega (arith, low))
    by (suc n) low e = record { left = n; enough = omega (arith, low, length-drop most_of_query (b ∷ bs)); lines = append_assoc done _ _ ∙ e }

-- no piece is left
pub cut_all : (done : List (List ℕ)) (rest : List ℕ) (all : List (List ℕ)) → rest ≡ [] → IsCut done rest all → done ≡ all
cut_all done rest all none is = sym (append-nil done) ∙ ap (λ (l : List (List ℕ)). done ++ map query_line l) (sym (nothing is.left) ∙ ap (pieces is.left) (sym none)) ∙ is.lines
  where
    nothing : (n : ℕ) → pieces n [] ≡ []
    nothing zero = refl
    nothing (suc n) = refl

-- a piece may end with the rest
pub cut_rest : (n m : ℕ) (xs : List ℕ) → n ≡ min (length xs) m → (take n xs ≡ take m xs) × (drop n xs ≡ drop m xs)
cut_rest n m xs is = elim (eqb_tells n m) [
  | inl t ↦ (ap (λ (k : ℕ). take k xs) t.1, ap (λ (k : ℕ). drop k xs) t.1)
  | inr t ↦ (
      let long : length xs ≤ n = omega (arith, is, t.1) in
      let far : length xs ≤ m = omega (arith, is, t.1) in
      (take_all n xs long ∙ sym (take_all m xs far), drop_all n xs long ∙ sym (drop_all m xs far))
      )
]
  where
    drop_all : (k : ℕ) (ys : List ℕ) → length ys ≤ k → drop k ys ≡ []
    drop_all zero [] low = refl
    drop_all zero (y ∷ ys) low = absurd (omega (arith, low))
    drop_all (suc k) [] low = refl
    drop_all (suc k) (y ∷ ys) low = drop_all k ys (omega (arith, low))

-- a test of the length
pub is_nothing : (xs : List ℕ) → (length xs == 0) ≡ true → xs ≡ []
is_nothing [] h = refl
is_nothing (x ∷ xs) h = elim (eqb_tells (length (x ∷ xs)) 0) [
  | inl t ↦ absurd (omega (arith, t.1))
  | inr t ↦ absurd (let e = t.0 in cc)
]

pub is_something : (xs : List ℕ) → (length xs == 0) ≡ false → 0 < length xs
is_something xs h = elim (eqb_tells (length xs) 0) [
  | inl t ↦ absurd (let e = t.0 in cc)
  | inr t ↦ omega (arith, t.1)
]
