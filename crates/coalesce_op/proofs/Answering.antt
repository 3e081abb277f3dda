-- The columns of coalesced events are those of the rows.
use Rattle.std.specs.Prelude.{List}
use Rattle.tw_rows.specs.Event.{alive}
use Rattle.tw_rows.specs.SameCells.{same_cells}
use Rattle.tw_rows.specs.declared.kind.CellKind.{CellKind}
use Rattle.edge_history.specs.History.{CellEvent}
use Rattle.plan_laws.proofs.RowsOf.{rows_alive, coalesced_rows_hold}
use Rattle.sweep_sides.specs.Sweeping.{AreStored}
use Rattle.sweep_sides.proofs.StoredRows.{Stored, rows_stored, stored_rows}
use Rattle.coalesce_op.specs.Coalesces.{coalesces}

pub coalesces_stored : (kinds : List CellKind) (a : List CellEvent) → AreStored kinds a → AreStored kinds (coalesces a)
coalesces_stored kinds a h =
    let r = rows_stored kinds a h in
    stored_rows kinds (coalesces a) (coalesced_rows_hold (Stored kinds) same_cells (alive a) (λ t. rows_alive (Stored kinds) a t r))
