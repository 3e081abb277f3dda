-- The events of a Clip over rows of cells.
use Rattle.std.specs.Prelude.{ℕ, Bool, List}
use Rattle.tw_rows.specs.declared.cells.Datum.{Datum}
use Rattle.edge_history.specs.History.{CellEvent}
use Rattle.key_nodes.specs.Clips.{clipped}
use Rattle.plan_laws.specs.Keeping.{plain_cells}
use Rattle.plan_model.specs.RowOps.{keys_equal_in}

-- the rows have the same data in their key columns
abbrev pub clip_meets : List ℕ → List ℕ → List Datum → List Datum → Bool
clip_meets left_key right_key a b = keys_equal_in plain_cells left_key right_key a b

-- each left event, up to the first start of a right event of its key that comes after its own. Of a left lifetime [3, 20) and
-- right starts at 3 and 8: the lifetime [3, 8)
abbrev pub clips : List ℕ → List ℕ → List CellEvent → List CellEvent → List CellEvent
clips left_key right_key a b = clipped (clip_meets left_key right_key) a b
