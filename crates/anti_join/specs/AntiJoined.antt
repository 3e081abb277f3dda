-- The events of an Anti over rows of cells.
use Rattle.std.specs.Prelude.{ℕ, Bool, List}
use Rattle.tw_rows.specs.SameCells.{same_cells}
use Rattle.tw_rows.specs.declared.cells.Datum.{Datum}
use Rattle.edge_history.specs.History.{CellEvent}
use Rattle.key_nodes.specs.Antis.{alone}
use Rattle.plan_laws.specs.Keeping.{plain_cells}
use Rattle.plan_model.specs.RowOps.{keys_equal_in}

-- the rows have the same data in their key columns
abbrev pub anti_meets : List ℕ → List ℕ → List Datum → List Datum → Bool
anti_meets left_key right_key a b = keys_equal_in plain_cells left_key right_key a b

-- for each left event one event for each run of instants at which no right row of its key is alive. Of a left lifetime
-- [2, 9) and right ones [4, 6) and [6, 8): the lifetimes [2, 4) and [8, 9)
abbrev pub antis : List ℕ → List ℕ → List CellEvent → List CellEvent → List CellEvent
antis left_key right_key a b = alone same_cells (anti_meets left_key right_key) a b
