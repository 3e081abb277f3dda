-- Entries of which, among equal cells, no time falls.
use Rattle.std.proofs.Common.{◌≡◌, ◌+◌, ◌<◌, ◌≤◌, ℕ, zero, suc, Bool, true, false, List, [], ◌∷◌, length, get_or, map, refl, sym, ◌∙◌, ap, subst, arith}
use Rattle.std.specs.Prelude.{filter, cond, AllPairs}
use Rattle.std.specs.List.Sorted.{IsNonDecreasing}

module _ {X : Type 0} (p : X → Bool) (f : X → ℕ) where
  abbrev passing : List X → List ℕ
  passing xs = map f (filter p xs)

  -- the place of an item among those that pass
  passed_at : (xs : List X) (j : ℕ) (d : X) → j < length xs → p (get_or xs j d) ≡ true → (k : ℕ) × ((k < length (passing xs)) × (get_or (passing xs) k 0 ≡ f (get_or xs j d)))
  passed_at [] j d low is = absurd (omega (arith, low))
  passed_at (x ∷ xs) zero d low is = rw is (zero, (omega arith, refl))
  passed_at (x ∷ xs) (suc j) d low is = go (p x) (passed_at xs j d (omega (arith, low)) is)
    where
      go : (b : Bool) → (k : ℕ) × ((k < length (passing xs)) × (get_or (passing xs) k 0 ≡ f (get_or xs j d))) →
          (k : ℕ) × ((k < length (map f (cond b (x ∷ filter p xs) (filter p xs)))) × (get_or (map f (cond b (x ∷ filter p xs) (filter p xs))) k 0 ≡ f (get_or xs j d)))
      go true at = (suc at.0, (let l = at.1.0 in omega (arith, l), at.1.1))
      go false at = at

  passing_tail : (x : X) (xs : List X) → IsNonDecreasing (passing (x ∷ xs)) → IsNonDecreasing (passing xs)
  passing_tail x xs rises = go (p x) rises
    where
      go : (b : Bool) → IsNonDecreasing (map f (cond b (x ∷ filter p xs) (filter p xs))) → IsNonDecreasing (passing xs)
      go true up = λ i j d le lt. up (suc i) (suc j) d (omega (arith, le)) (omega (arith, lt))
      go false up = up

  pub passing_rise : (xs : List X) → IsNonDecreasing (passing xs) → (i j : ℕ) (d : X) → i < j → j < length xs → p (get_or xs i d) ≡ true → p (get_or xs j d) ≡ true →
      f (get_or xs i d) ≤ f (get_or xs j d)
  passing_rise [] rises i j d below low pi pj = absurd (omega (arith, low))
  passing_rise (x ∷ xs) rises zero zero d below low pi pj = absurd (omega (arith, below))
  passing_rise (x ∷ xs) rises zero (suc j) d below low pi pj =
      let at = passed_at xs j d (omega (arith, low)) pj in
      let up : IsNonDecreasing (f x ∷ passing xs) = (rw pi at rises) in
      let l = at.1.0 in
      let e = at.1.1 in
      let h = up zero (suc at.0) 0 (omega arith) (omega (arith, l)) in
      subst (λ n. f x ≤ n) e h
  passing_rise (x ∷ xs) rises (suc i) zero d below low pi pj = absurd (omega (arith, below))
  passing_rise (x ∷ xs) rises (suc i) (suc j) d below low pi pj = passing_rise xs (passing_tail x xs rises) i j d (omega (arith, below)) (omega (arith, low)) pi pj
