-- The columns of the events of a Top are those of the rows.
use Rattle.std.specs.Prelude.{ℕ, nat_lt, List}
use Rattle.tw_rows.specs.Event.{alive}
use Rattle.tw_rows.specs.SameCells.{same_cells}
use Rattle.tw_rows.specs.declared.kind.CellKind.{CellKind}
use Rattle.edge_history.specs.History.{CellEvent}
use Rattle.key_nodes.specs.Tops.{greater}
use Rattle.plan_laws.proofs.RowsOf.{each_filter, rows_alive, coalesced_rows_hold}
use Rattle.sweep_sides.specs.Sweeping.{AreStored}
use Rattle.sweep_sides.proofs.StoredRows.{Stored, rows_stored, stored_rows}
use Rattle.outer_top.specs.TopKeys.{value_of, meets}
use Rattle.outer_top.specs.TopEvents.{tops_at, tops}

pub tops_stored : (columns : List ℕ) (by most : ℕ) (kinds : List CellKind) (a : List CellEvent) → AreStored kinds a → AreStored kinds (tops columns by most a)
tops_stored columns by most kinds a h =
    let r = rows_stored kinds a h in
    stored_rows kinds (tops columns by most a) (coalesced_rows_hold (Stored kinds) same_cells (tops_at columns by most a)
    (λ t. each_filter (Stored kinds) (λ r. nat_lt (greater (meets columns) (value_of by) (alive a t) r) most) (alive a t) (rows_alive (Stored kinds) a t r)))
