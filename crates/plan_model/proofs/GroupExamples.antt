-- Aggregates and the rows of groups, worked out on a few.
use Rattle.std.specs.Prelude.{◌≡◌, pos, negsuc, ◌-◌, ◌^◌, ℕ, true, false, None, Some, List, [], ◌∷◌, refl}
use Rattle.tw_rows.specs.Rows.{Row}
use Rattle.tw_rows.specs.declared.row.Value.TheVariants.{Int, Bool as Flag}
use Rattle.key_nodes.specs.Groups.{grouped_rows}
use Rattle.plan_model.specs.declared.agg.Agg.{Agg}
use Rattle.plan_model.specs.declared.agg.Agg.TheVariants.{Count, Sum, Least, Greatest}
use Rattle.plan_model.specs.Keys.{rows_equal, value_ops, key_values}
use Rattle.plan_model.specs.Amounts.{exact_sum, least_int, greatest_int, most_rows, is_outside_i64}
use Rattle.plan_model.specs.Groups.{row_of_group, is_undefined}
use Rattle.plan_model.specs.RowOps.{ints_in}

-- a row of two ints
abbrev pair : ℕ → ℕ → Row
pair a b = Int (pos a) ∷ Int (pos b) ∷ []

abbrev all_aggs : List Agg
all_aggs = Count ∷ Sum 1 ∷ Least 1 ∷ Greatest 1 ∷ []

-- a value that is no int, and one that is not there, read as 0
ints_of_a_column : ints_in value_ops 1 (pair 7 2 ∷ (Int (pos 7) ∷ Flag true ∷ []) ∷ (Int (pos 7) ∷ []) ∷ []) ≡ pos 2 ∷ pos 0 ∷ pos 0 ∷ []
ints_of_a_column = refl

the_least : least_int (pos 3 ∷ negsuc 4 ∷ pos 9 ∷ []) ≡ negsuc 4
the_least = refl

the_greatest : greatest_int (pos 3 ∷ negsuc 4 ∷ pos 9 ∷ []) ≡ pos 9
the_greatest = refl

a_sum_has_no_bound : exact_sum (pos (2 ^ 63 - 1) ∷ pos 1 ∷ []) ≡ pos (2 ^ 63)
a_sum_has_no_bound = refl

outside_i64 : is_outside_i64 (pos (2 ^ 63)) ≡ true
outside_i64 = refl

within_i64 : is_outside_i64 (negsuc (2 ^ 63 - 1)) ≡ false
within_i64 = refl

the_row_of_a_group : row_of_group (0 ∷ []) all_aggs (Int (pos 7) ∷ []) (pair 7 2 ∷ pair 8 5 ∷ pair 7 3 ∷ [])
    ≡ Some (Int (pos 7) ∷ Int (pos 2) ∷ Int (pos 5) ∷ Int (pos 2) ∷ Int (pos 3) ∷ [])
the_row_of_a_group = refl

no_row_of_a_key_without_rows : row_of_group (0 ∷ []) all_aggs (Int (pos 9) ∷ []) (pair 7 2 ∷ []) ≡ None
no_row_of_a_key_without_rows = refl

-- with no key column all rows are of one group
the_groups_without_a_key : grouped_rows (key_values []) rows_equal (row_of_group [] (Count ∷ [])) (pair 7 2 ∷ pair 8 5 ∷ []) ≡ (Int (pos 2) ∷ []) ∷ []
the_groups_without_a_key = refl

a_large_sum : is_undefined (0 ∷ []) (Sum 1 ∷ []) (pair 7 (2 ^ 63 - 1) ∷ pair 8 4 ∷ pair 7 1 ∷ []) ≡ true
unfolding most_rows
a_large_sum = refl

large_sums_of_two_keys_are_apart : is_undefined (0 ∷ []) (Sum 1 ∷ []) (pair 7 (2 ^ 63 - 1) ∷ pair 8 4 ∷ []) ≡ false
unfolding most_rows
large_sums_of_two_keys_are_apart = refl
