-- What is kept of a side between steps.
use Rattle.std.specs.Prelude.{◌≡◌, ℕ, List}
use Rattle.tw_rows.specs.declared.edge.HeldRow.{HeldRow}
use Rattle.tw_rows.specs.declared.kind.CellKind.{CellKind}
use Rattle.edge_history.specs.Order.{failing}
use Rattle.end_queue.specs.Pending.{Pending}
use Rattle.sweep_laws.specs.Saving.{starts_of, is_row_start, may_wait}
use Rattle.sweep_sides.specs.Waiting.{queued, AreTimed}

-- what is kept of a side: rows that began before a time, and edges that wait from it on, each due at its sync. Before 5 a row
-- since 3, and an end at 7 that waits
pub record IsSide (kinds : List CellKind) (to : ℕ) (rows : List HeldRow) (waiting : List Pending) : Type 0 where
  pub started : failing (is_row_start kinds to) (starts_of rows) ≡ 0
  pub later : failing (may_wait kinds to) (queued waiting) ≡ 0
  pub timed : AreTimed waiting
