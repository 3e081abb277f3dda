-- Groups of rows of values: the rows of one key, taken together into one row.
use Rattle.std.specs.Prelude.{ℕ, ℤ, Bool, Option, List}
use Rattle.tw_rows.specs.Rows.{Row}
use Rattle.plan_model.specs.declared.agg.Agg.{Agg}
use Rattle.plan_model.specs.Keys.{value_ops}
use Rattle.plan_model.specs.RowOps.{agg_in, row_of_group_in, is_undefined_in}

-- what an aggregate makes of the rows of a group. The sum of column 1 of the rows (7, 2) and (7, 3) is 5
abbrev pub agg_value : Agg → List Row → ℤ
agg_value a rows = agg_in value_ops a rows

-- the row of the group that has these values in its key: the values, then the aggregates of the rows that have them
abbrev pub row_of_group : List ℕ → List Agg → Row → List Row → Option Row
row_of_group key aggs values rows = row_of_group_in value_ops key aggs values rows

-- one of the groups of the rows has more than 2^62 rows, or a sum outside i64
abbrev pub is_undefined : List ℕ → List Agg → List Row → Bool
is_undefined key aggs rows = is_undefined_in value_ops key aggs rows
