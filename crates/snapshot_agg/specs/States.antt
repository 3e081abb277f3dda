-- What is kept of the rows of one key.
use Rattle.std.specs.Prelude.{◌≡◌, ℕ, ◌≤◌, ◌^◌, ℤ, pos, Option, None, Some, cond, List, [], ◌∷◌, map, length}
use Rattle.tw_rows.specs.declared.cells.Datum.{Datum}
use Rattle.plan_laws.specs.Keeping.{plain_cells}
use Rattle.plan_model.specs.declared.agg.Agg.{Agg}
use Rattle.plan_model.specs.declared.agg.Agg.TheVariants.{Count, Sum, Least, Greatest}
use Rattle.plan_model.specs.RowOps.{int_in, agg_in, group_row_in, is_undefined_group_in, has_large_sum_in}
use Rattle.agg_state.specs.Standing.{count_stands, sum_stands, least_stands, greatest_stands}
use Rattle.snapshot_agg.specs.declared.state.State.{State}
use Rattle.snapshot_agg.specs.declared.state.State.TheVariants.{Counted, Summed, Lowest, Highest}

-- the int that an aggregate sees in a row: a count sees 0
abbrev pub seen_int : Agg → List Datum → ℤ
seen_int Count row = pos 0
seen_int (Sum column) row = int_in plain_cells column row
seen_int (Least column) row = int_in plain_cells column row
seen_int (Greatest column) row = int_in plain_cells column row

abbrev pub seen : Agg → List (List Datum) → List ℤ
seen a rows = map (seen_int a) rows

-- the state is one for the aggregate
abbrev pub IsFor : State → Agg → Type 0
IsFor (Counted s) Count = Unit {0}
IsFor (Summed column s) (Sum c) = column ≡ c
IsFor (Lowest column s) (Least c) = column ≡ c
IsFor (Highest column s) (Greatest c) = column ≡ c
IsFor s a = ⊥

-- the state is kept of a bag of ints
abbrev pub StandsAs : State → List ℤ → Type 0
StandsAs (Counted s) bag = count_stands s bag
StandsAs (Summed column s) bag = sum_stands s bag
StandsAs (Lowest column s) bag = least_stands s bag
StandsAs (Highest column s) bag = greatest_stands s bag

-- the state is kept of the rows, for the aggregate
pub record IsStateOf (s : State) (a : Agg) (rows : List (List Datum)) : Type 0 where
  pub is_for : IsFor s a
  pub stands : StandsAs s (seen a rows)

-- the states are kept of the rows, one for each aggregate
abbrev pub AreStatesOf : List State → List Agg → List (List Datum) → Type 0
AreStatesOf [] [] rows = Unit {0}
AreStatesOf (s ∷ ss) (a ∷ bs) rows = IsStateOf s a rows × AreStatesOf ss bs rows
AreStatesOf ss bs rows = ⊥

-- the number of the rows and the states
pub record IsTotals (count : ℕ) (states : List State) (aggs : List Agg) (rows : List (List Datum)) : Type 0 where
  pub is_count : count ≡ length rows
  pub few : count ≤ 2 ^ 63
  pub are_states : AreStatesOf states aggs rows

-- what an aggregate tells of the rows, and what a group tells: nothing where it is undefined
abbrev pub told_of : Agg → List (List Datum) → Option ℤ
told_of a rows = cond (has_large_sum_in plain_cells rows a) None (Some (agg_in plain_cells a rows))

abbrev pub told_row : List Agg → List Datum → List (List Datum) → Option (List Datum)
told_row aggs k rows = cond (is_undefined_group_in plain_cells aggs rows) None (group_row_in plain_cells aggs k rows)
