-- The definitions, worked out on a few rows.
use Rattle.std.specs.Prelude.{◌≡◌, ◌^◌, ◌-◌, pos, Some, None, List, [], ◌∷◌, refl}
use Rattle.tw_rows.specs.declared.cells.Datum.{Datum}
use Rattle.tw_rows.specs.declared.cells.Datum.TheVariants.{Int}
use Rattle.plan_model.specs.Amounts.{most_rows}
use Rattle.plan_model.specs.declared.agg.Agg.TheVariants.{Count, Sum, Least}
use Rattle.snapshot_agg.specs.Words.{key_data}
use Rattle.snapshot_agg.specs.States.{seen, told_of, told_row}

abbrev rows : List (List Datum)
rows = (Int (pos 7) ∷ Int (pos 2) ∷ []) ∷ (Int (pos 7) ∷ Int (pos 3) ∷ []) ∷ []

the_key_in_its_order : key_data (2 ∷ 0 ∷ []) (Int (pos 5) ∷ Int (pos 6) ∷ Int (pos 7) ∷ []) ≡ Int (pos 7) ∷ Int (pos 5) ∷ []
the_key_in_its_order = refl

a_count_sees_zeros : seen Count rows ≡ pos 0 ∷ pos 0 ∷ []
a_count_sees_zeros = refl

a_least_is_told : told_of (Least 1) rows ≡ Some (pos 2)
a_least_is_told = refl

a_row_is_told : told_row (Count ∷ Sum 1 ∷ []) (Int (pos 7) ∷ []) rows ≡ Some (Int (pos 7) ∷ Int (pos 2) ∷ Int (pos 5) ∷ [])
unfolding most_rows
a_row_is_told = refl

an_undefined_row_is_not : told_row (Sum 0 ∷ []) [] ((Int (pos (2 ^ 63 - 1)) ∷ []) ∷ (Int (pos 1) ∷ []) ∷ []) ≡ None
unfolding most_rows
an_undefined_row_is_not = refl
