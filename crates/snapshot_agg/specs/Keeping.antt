-- What a group keeps from step to step.
use Rattle.std.specs.Prelude.{◌≡◌, ℕ, ◌≤◌, Bool, false, List, [], Vec, length, map, All}
use Rattle.indexmap.specs.IndexMap.{IndexMap, IsUnique}
use Rattle.tw_rows.specs.Cells.{datum_kind}
use Rattle.tw_rows.specs.Instant.{inf}
use Rattle.tw_rows.specs.SameCells.{same_cells}
use Rattle.tw_rows.specs.declared.cells.Datum.{Datum}
use Rattle.tw_rows.specs.declared.edge.Edge.{Edge}
use Rattle.tw_rows.specs.declared.edge.HeldRow.{HeldRow}
use Rattle.tw_rows.specs.declared.kind.CellKind.{CellKind}
use Rattle.edge_history.specs.Order.{IsHistory}
use Rattle.end_queue.specs.Pending.{Pending}
use Rattle.plan_laws.specs.Places.{EdgesArePlaced}
use Rattle.plan_model.specs.declared.agg.Agg.{Agg}
use Rattle.sweep_laws.specs.Grouping.{GroupKeeps}
use Rattle.snapshot_agg.specs.declared.totals.Totals.{Totals}
use Rattle.snapshot_agg.specs.KeptRows.{RowsAndEnds}
use Rattle.snapshot_agg.specs.Waiting.{all_pending}
use Rattle.snapshot_agg.specs.Words.{key_data, tell, bad}
use Rattle.snapshot_agg.specs.Totaled.{run_of}
use Rattle.sweep_sides.specs.Waiting.{queued}

-- the rows, the emitted rows and the pending edges are what is left after the edges came and out was answered, closed up to a
-- time
abbrev pub KeepsGroup : {S : Type 0} → List ℕ → List Agg → List HeldRow → IndexMap (List Datum) HeldRow S → List Pending → ℕ → List Edge → List Edge → Type 0
KeepsGroup key aggs rows running waiting to came out =
    GroupKeeps (key_data key) same_cells (tell key aggs) (bad key aggs) rows (run_of running) (queued waiting) to came out

-- the same, closed up to x, of edges that columns of these kinds store, with places in a table, and beside a right side of
-- which nothing is read. Of a count over two starts at 3, closed up to 4: both rows, and the row 2 since 3 as what was told
pub record KeepsGrouped {S : Type 0} (key : List ℕ) (aggs : List Agg) (kinds : List CellKind) (texts : List (List ℕ)) (rows : RowsAndEnds)
    (running : IndexMap (List Datum) HeldRow S) (waiting : List Pending) (x : ℕ) (left right out : List Edge) : Type 0 where
  pub group : KeepsGroup key aggs rows.held running (all_pending rows.ends waiting) x left out
  pub low : x ≤ inf
  pub left_placed : EdgesArePlaced texts left
  pub left_cells : All (λ e. map datum_kind e.cells ≡ kinds) left
  pub right_history : IsHistory right
  pub right_placed : EdgesArePlaced texts right

-- no row is kept or was emitted, no edge is pending, no side is closed, and no step failed
pub record IsOpening {S : Type 0} (rows : RowsAndEnds) (running : IndexMap (List Datum) HeldRow S) (waiting : List Pending)
    (x y : ℕ) (failed : Bool) : Type 0 where
  pub no_rows : rows.held ≡ []
  pub no_ends : rows.ends ≡ []
  pub no_runs : running.entries ≡ []
  pub none : waiting ≡ []
  pub left : x ≡ 0
  pub right : y ≡ 0
  pub works : failed ≡ false

-- the keys that have rows are no more than the rows, and of each key one row is emitted at most. Of rows of the keys 5, 5 and 6
-- they are two
pub record HasFewKeys {R S T : Type 0} (rows : List HeldRow) (totals : IndexMap (Vec Datum R) Totals T) (running : IndexMap (List Datum) HeldRow S) : Type 0 where
  pub keys : length totals.entries ≤ length rows
  pub once : IsUnique same_cells running
