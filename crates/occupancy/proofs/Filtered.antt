-- For a list whose items pass a test where their bits are set: what the set places and the counts say of the items that pass.
use Rattle.std.proofs.Common.{◌≡◌, ℕ, zero, suc, ◌+◌, ◌&&◌, Bool, true, false, List, [], ◌∷◌, cond, drop, get_or, map, refl, ap, arith, add-one}
use Rattle.std.specs.Prelude.{filter, fold, count_by}
use Rattle.occupancy.specs.Bits.{both, IsNextSet, IsNoneSet}

module _ {X : Type 0} (p : X → Bool) where
  -- where no bit is set at `from` or later, no item from there on passes
  pub filter-none_set : (xs : List X) (from : ℕ) → IsNoneSet (map p xs) from → filter p (drop from xs) ≡ []
  filter-none_set [] zero h = refl
  filter-none_set [] (suc from) h = refl
  filter-none_set (x ∷ xs) zero h =
      let failed : p x ≡ false = h zero (omega arith) in
      rw failed (filter-none_set xs zero (λ k _. h (suc k) (omega arith)))
  filter-none_set (x ∷ xs) (suc from) h = filter-none_set xs from (λ k le. h (suc k) (omega arith))

  filter_next : (xs : List X) (from k : ℕ) (d : X) → IsNextSet (map p xs) from k → filter p (drop from xs) ≡ get_or xs k d ∷ filter p (drop (suc k) xs)
  filter_next [] from k d next = let wrong : false ≡ true = next.set in cc
  filter_next (x ∷ xs) zero zero d next = let passed : p x ≡ true = next.set in rw passed
  filter_next (x ∷ xs) zero (suc k) d next =
      let failed : p x ≡ false = next.least zero (omega arith) (omega arith) in
      let rest : IsNextSet (map p xs) zero k = record { in_range = omega arith; set = next.set; least = λ j ge lt. next.least (suc j) (omega arith) (omega arith) } in
      rw failed (filter_next xs zero k d rest)
  filter_next (x ∷ xs) (suc from) zero d next = absurd (omega (arith, next.in_range))
  filter_next (x ∷ xs) (suc from) (suc k) d next =
      let rest : IsNextSet (map p xs) from k = record { in_range = omega (arith, next.in_range); set = next.set; least = λ j ge lt. next.least (suc j) (omega arith) (omega arith) } in
      filter_next xs from k d rest

  -- the item at the next set place is the first one from there on that passes
  pub filter-next_set : (xs : List X) (from k : ℕ) (d : X) → IsNextSet (map p xs) from k → filter p (drop from xs) ≡ get_or xs k d ∷ filter p (drop (k + 1) xs)
  filter-next_set xs from k d next = rw add-one (filter_next xs from k d next)

  fold-map : (xs : List X) (n : ℕ) → fold (λ a b. a + cond b 1 0) n (map p xs) ≡ fold (λ a x. a + cond (p x) 1 0) n xs
  fold-map [] n = refl
  fold-map (x ∷ xs) n = fold-map xs (n + cond (p x) 1 0)

  -- as many bits are set as items pass
  pub count_by-map : (xs : List X) → count_by (λ b. b) (map p xs) ≡ count_by p xs
  count_by-map xs = fold-map xs 0

  -- the conjunction of the bits of two tests is that of the test for both
  pub both-map : (q : X → Bool) (xs : List X) → both (map p xs) (map q xs) ≡ map (λ x. p x && q x) xs
  both-map q [] = refl
  both-map q (x ∷ xs) = ap (λ bs. (p x && q x) ∷ bs) (both-map q xs)

  -- what passes both tests is what passes the second of what passes the first
  pub filter-both : (q : X → Bool) (xs : List X) → filter (λ x. p x && q x) xs ≡ filter q (filter p xs)
  filter-both q [] = refl
  filter-both q (x ∷ xs) =
      let rest : filter (λ y. p y && q y) xs ≡ filter q (filter p xs) = filter-both q xs in
      elim (p x) as (λ b. cond (b && q x) (x ∷ filter (λ y. p y && q y) xs) (filter (λ y. p y && q y) xs) ≡ filter q (cond b (x ∷ filter p xs) (filter p xs))) [
        | true ↦ ap (λ ys. cond (q x) (x ∷ ys) ys) rest
        | false ↦ rest
      ]
