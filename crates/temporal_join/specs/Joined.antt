-- The events of a Join over rows of cells, and what an operator keeps of it.
use Rattle.std.specs.Prelude.{ℕ, Bool, List}
use Rattle.tw_rows.specs.declared.cells.Datum.{Datum}
use Rattle.edge_history.specs.History.{CellEvent}
use Rattle.key_nodes.specs.Joins.{joined}
use Rattle.plan_laws.specs.Keeping.{plain_cells}
use Rattle.plan_model.specs.Keys.{paired_row}
use Rattle.plan_model.specs.RowOps.{keys_equal_in}

-- the rows have the same data in their key columns
abbrev pub join_meets : List ℕ → List ℕ → List Datum → List Datum → Bool
join_meets left_key right_key a b = keys_equal_in plain_cells left_key right_key a b

-- the events of all pairs of events of both sides
abbrev pub joins : List ℕ → List ℕ → List CellEvent → List CellEvent → List CellEvent
joins left_key right_key a b = joined (join_meets left_key right_key) (paired_row right_key) a b
