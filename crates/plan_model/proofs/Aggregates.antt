-- Aggregates depend on the multiset of the rows alone.
use Rattle.std.specs.Prelude.{◌≡◌, ℕ, ◌+◌, nat_lt, ℤ, pos, int_lt, int_le, Bool, true, not, ◌||◌, Some, List, [], ◌∷◌, ◌++◌, length, map, refl}
use Rattle.std.specs.List.{list_any}
use Rattle.std.specs.Int.{int_min, int_max}
use Rattle.std.proofs.Common.{sym, ◌∙◌, ap, arith}
use Rattle.std.proofs.lemmas.Int.{ints}
use borrow.Author.Differences.{up, down}
use Rattle.tw_rows.specs.Bag.{total, SameBag}
use Rattle.tw_rows.proofs.Bags.{SameBag-map, SameBag-filter}
use Rattle.key_nodes.specs.Groups.{IsGroupRow}
use Rattle.key_nodes.proofs.Bags.{any_of_same}
use Rattle.key_nodes.proofs.Grouping.{group_row_of}
use Rattle.plan_model.specs.declared.agg.Agg.{Agg}
use Rattle.plan_model.specs.declared.agg.Agg.TheVariants.{Count, Sum, Least, Greatest}
use Rattle.plan_model.specs.Amounts.{exact_sum, least_from, least_int, greatest_from, greatest_int, most_rows, is_outside_i64}
use Rattle.plan_model.specs.RowOps.{RowOps, key_in, ints_in, agg_in, group_row_in, rows_of_key_in, row_of_group_in, has_large_sum_in, is_undefined_group_in, is_undefined_in}

pub length_is : {X : Type 0} (xs : List X) → length xs ≡ total (λ x. 1) xs
length_is [] = refl
length_is (x ∷ xs) = let h = length_is xs in omega (arith, h)

pub length_same : {X : Type 0} (xs ys : List X) → SameBag xs ys → length xs ≡ length ys
length_same xs ys h = length_is xs ∙ h.weigh (λ x. 1) ∙ sym (length_is ys)

-- sums
sum_is : (xs : List ℤ) → up (exact_sum xs) + total down xs ≡ down (exact_sum xs) + total up xs
sum_is [] = refl
sum_is (x ∷ xs) = let h = sum_is xs in omega (arith, ints, h)

pub sum_same : (xs ys : List ℤ) → SameBag xs ys → exact_sum xs ≡ exact_sum ys
sum_same xs ys h =
    let a = sum_is xs in
    let b = sum_is ys in
    let u = h.weigh up in
    let d = h.weigh down in
    omega (arith, ints, a, b, u, d)

-- the least and the greatest
least_step : (z x m : ℤ) (any : Bool) → int_le z m ≡ not any → int_le z (int_min x m) ≡ not (int_lt x z || any)
least_step z x m any h = grind (arith, ints)

pub least_is : (z x : ℤ) (xs : List ℤ) → int_le z (least_from x xs) ≡ not (list_any (λ v. int_lt v z) (x ∷ xs))
least_is z x [] = grind (arith, ints)
least_is z x (y ∷ ys) = least_step z x (least_from y ys) (list_any (λ v. int_lt v z) (y ∷ ys)) (least_is z y ys)

at_most_itself : (z : ℤ) → int_le z z ≡ true
at_most_itself z = grind (arith, ints)

both_ways : (x y : ℤ) → int_le x y ≡ true → int_le y x ≡ true → x ≡ y
both_ways x y h k = omega (arith, ints)

pub least_same : (xs ys : List ℤ) → SameBag xs ys → least_int xs ≡ least_int ys
least_same [] [] h = refl
least_same [] (y ∷ ys) h = absurd (let n = length_same [] (y ∷ ys) h in omega (arith, n))
least_same (x ∷ xs) [] h = absurd (let n = length_same (x ∷ xs) [] h in omega (arith, n))
least_same (x ∷ xs) (y ∷ ys) h =
    both_ways (least_from x xs) (least_from y ys)
    (sym (alike (least_from x xs)) ∙ at_most_itself (least_from x xs))
    (alike (least_from y ys) ∙ at_most_itself (least_from y ys))
  where
    alike : (z : ℤ) → int_le z (least_from x xs) ≡ int_le z (least_from y ys)
    alike z = least_is z x xs ∙ (ap not (any_of_same (λ v. int_lt v z) (x ∷ xs) (y ∷ ys) h) ∙ sym (least_is z y ys))

greatest_step : (z x m : ℤ) (any : Bool) → int_le m z ≡ not any → int_le (int_max x m) z ≡ not (int_lt z x || any)
greatest_step z x m any h = grind (arith, ints)

pub greatest_is : (z x : ℤ) (xs : List ℤ) → int_le (greatest_from x xs) z ≡ not (list_any (int_lt z) (x ∷ xs))
greatest_is z x [] = grind (arith, ints)
greatest_is z x (y ∷ ys) = greatest_step z x (greatest_from y ys) (list_any (int_lt z) (y ∷ ys)) (greatest_is z y ys)

pub greatest_same : (xs ys : List ℤ) → SameBag xs ys → greatest_int xs ≡ greatest_int ys
greatest_same [] [] h = refl
greatest_same [] (y ∷ ys) h = absurd (let n = length_same [] (y ∷ ys) h in omega (arith, n))
greatest_same (x ∷ xs) [] h = absurd (let n = length_same (x ∷ xs) [] h in omega (arith, n))
greatest_same (x ∷ xs) (y ∷ ys) h =
    both_ways (greatest_from x xs) (greatest_from y ys)
    (alike (greatest_from y ys) ∙ at_most_itself (greatest_from y ys))
    (sym (alike (greatest_from x xs)) ∙ at_most_itself (greatest_from x xs))
  where
    alike : (z : ℤ) → int_le (greatest_from x xs) z ≡ int_le (greatest_from y ys) z
    alike z = greatest_is z x xs ∙ (ap not (any_of_same (int_lt z) (x ∷ xs) (y ∷ ys) h) ∙ sym (greatest_is z y ys))

pub map_same : {X Y : Type 0} (f g : X → Y) (xs : List X) → ((x : X) → f x ≡ g x) → map f xs ≡ map g xs
map_same f g [] h = refl
map_same f g (x ∷ xs) h = ap (λ y. y ∷ map f xs) (h x) ∙ ap (λ ys. g x ∷ ys) (map_same f g xs h)

any_same : {X : Type 0} (p q : X → Bool) (xs : List X) → ((x : X) → p x ≡ q x) → list_any p xs ≡ list_any q xs
any_same p q [] h = refl
any_same p q (x ∷ xs) h = ap (λ b. b || list_any p xs) (h x) ∙ ap (λ b. q x || b) (any_same p q xs h)

module _ {X : Type 0} (ops : RowOps X) where
  ints_same : (column : ℕ) (xs ys : List (List X)) → SameBag xs ys → SameBag (ints_in ops column xs) (ints_in ops column ys)
  ints_same column xs ys h = SameBag-map _ xs ys h

  -- an aggregate of equal multisets is equal
  pub agg_same : (a : Agg) (xs ys : List (List X)) → SameBag xs ys → agg_in ops a xs ≡ agg_in ops a ys
  agg_same Count xs ys h = ap pos (length_same xs ys h)
  agg_same (Sum column) xs ys h = sum_same _ _ (ints_same column xs ys h)
  agg_same (Least column) xs ys h = least_same _ _ (ints_same column xs ys h)
  agg_same (Greatest column) xs ys h = greatest_same _ _ (ints_same column xs ys h)

  pub group_row_same : (aggs : List Agg) (values : List X) (xs ys : List (List X)) → SameBag xs ys → group_row_in ops aggs values xs ≡ group_row_in ops aggs values ys
  group_row_same aggs values [] [] h = refl
  group_row_same aggs values [] (y ∷ ys) h = absurd (let n = length_same [] (y ∷ ys) h in omega (arith, n))
  group_row_same aggs values (x ∷ xs) [] h = absurd (let n = length_same (x ∷ xs) [] h in omega (arith, n))
  group_row_same aggs values (x ∷ xs) (y ∷ ys) h =
      ap (λ l. Some (values ++ l)) (map_same (λ a. ops.of_int (agg_in ops a (x ∷ xs))) (λ a. ops.of_int (agg_in ops a (y ∷ ys))) aggs (λ a. ap ops.of_int (agg_same a (x ∷ xs) (y ∷ ys) h)))

  pub row_of_group_is : (key : List ℕ) (aggs : List Agg) → IsGroupRow (key_in ops key) ops.same (row_of_group_in ops key aggs)
  row_of_group_is key aggs = group_row_of (key_in ops key) ops.same (group_row_in ops aggs) (group_row_same aggs) (λ values. refl)

  -- whether groups are undefined
  large_same : (a : Agg) (xs ys : List (List X)) → SameBag xs ys → has_large_sum_in ops xs a ≡ has_large_sum_in ops ys a
  large_same Count xs ys h = refl
  large_same (Sum column) xs ys h = ap is_outside_i64 (sum_same _ _ (ints_same column xs ys h))
  large_same (Least column) xs ys h = refl
  large_same (Greatest column) xs ys h = refl

  pub undefined_group_same : (aggs : List Agg) (xs ys : List (List X)) → SameBag xs ys → is_undefined_group_in ops aggs xs ≡ is_undefined_group_in ops aggs ys
  undefined_group_same aggs xs ys h =
      ap (λ n. nat_lt most_rows n || list_any (has_large_sum_in ops xs) aggs) (length_same xs ys h)
      ∙ ap (λ b. nat_lt most_rows (length ys) || b) (any_same (has_large_sum_in ops xs) (has_large_sum_in ops ys) aggs (λ a. large_same a xs ys h))

  pub undefined_same : (key : List ℕ) (aggs : List Agg) (xs ys : List (List X)) → SameBag xs ys → is_undefined_in ops key aggs xs ≡ is_undefined_in ops key aggs ys
  undefined_same key aggs xs ys h =
      any_same _ (λ row. is_undefined_group_in ops aggs (rows_of_key_in ops key (key_in ops key row) ys)) xs (λ row. undefined_group_same aggs _ _ (SameBag-filter _ xs ys h))
      ∙ any_of_same (λ row. is_undefined_group_in ops aggs (rows_of_key_in ops key (key_in ops key row) ys)) xs ys h
