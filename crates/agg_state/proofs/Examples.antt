-- The definitions, worked out on a few ints.
use Rattle.std.specs.Prelude.{◌≡◌, ◌^◌, ◌-◌, pos, negsuc, Some, None, false, [], ◌∷◌, refl}
use Rattle.plan_model.specs.Amounts.{exact_sum, least_int, most_rows, is_outside_i64}
use Rattle.agg_state.specs.Amounts.{told, wide, times}

a_sum_is_told : told exact_sum (λ bag. is_outside_i64 (exact_sum bag)) (pos 3 ∷ pos 4 ∷ []) ≡ Some (pos 7)
unfolding most_rows
a_sum_is_told = refl

a_large_sum_is_not : told exact_sum (λ bag. is_outside_i64 (exact_sum bag)) (pos (2 ^ 63 - 1) ∷ pos 1 ∷ []) ≡ None
unfolding most_rows
a_large_sum_is_not = refl

the_least_is_told : told least_int (λ bag. false) (pos 3 ∷ negsuc 4 ∷ []) ≡ Some (negsuc 4)
unfolding most_rows
the_least_is_told = refl

seven_twice : times (pos 7) (pos 7 ∷ pos 4 ∷ pos 7 ∷ []) ≡ 2
seven_twice = refl

one_is_wide : wide (pos 7 ∷ pos (2 ^ 63) ∷ []) ≡ 1
one_is_wide = refl
