-- What a group keeps, as it is made, in longer tables, and what it answered.
use Rattle.std.specs.Prelude.{◌≡◌, ℕ, Bool, false, List, [], map, refl}
use Rattle.std.specs.Map.{lookup}
use Rattle.std.proofs.Common.{ap, arith}
use Rattle.std.proofs.lemmas.List.Elements.{All-nil}
use Rattle.indexmap.specs.IndexMap.{IndexMap}
use Rattle.tw_rows.specs.Cells.{ArePlaced, datum_kind}
use Rattle.tw_rows.specs.SameCells.{same_cells}
use Rattle.tw_rows.specs.Texts.{BeginsWith}
use Rattle.tw_rows.specs.declared.cells.Datum.{Datum}
use Rattle.tw_rows.specs.declared.edge.Edge.{Edge}
use Rattle.tw_rows.specs.declared.edge.HeldRow.{HeldRow}
use Rattle.tw_rows.specs.declared.kind.CellKind.{CellKind}
use Rattle.end_queue.specs.Pending.{Pending}
use Rattle.plan_laws.specs.Places.{AreDistinct, read_of}
use Rattle.plan_laws.specs.Standing.{StandsRead}
use Rattle.plan_laws.proofs.Standing.{placed_longer}
use Rattle.plan_laws.proofs.Steps.{keeps_read}
use Rattle.plan_model.specs.Meaning.{node_events}
use Rattle.plan_model.specs.declared.agg.Agg.{Agg}
use Rattle.plan_model.specs.declared.node.Node.TheVariants.{Group}
use Rattle.snapshot_agg.specs.Keeping.{KeepsGrouped, IsOpening}
use Rattle.snapshot_agg.specs.KeptRows.{RowsAndEnds}
use Rattle.snapshot_agg.specs.Waiting.{all_pending}
use Rattle.snapshot_agg.specs.Totaled.{run_from, run_of}
use Rattle.sweep_sides.specs.Waiting.{queued}
use Rattle.snapshot_agg.proofs.Stepping.{nothing_kept}

pub group_opening : {S : Type 0} (key : List ℕ) (aggs : List Agg) (kinds : List CellKind) (texts : List (List ℕ)) (rows : RowsAndEnds) (running : IndexMap (List Datum) HeldRow S) (waiting : List Pending) (x y : ℕ) (failed : Bool) →
    IsOpening rows running waiting x y failed → KeepsGrouped key aggs kinds texts rows running waiting x [] [] []
group_opening key aggs kinds texts rows running waiting x y failed o = record {
  group = nothing_kept key aggs rows.held (run_of running) (queued (all_pending rows.ends waiting)) x o.no_rows (λ k. ap (λ es. run_from (lookup (same_cells k) es)) o.no_runs) (λ i. queued (all_pending (o.no_ends i) (o.none i))) o.left;
  low = let z = o.left in omega (arith, z);
  left_placed = All-nil (λ (e : Edge). ArePlaced texts e.cells);
  left_cells = All-nil (λ (e : Edge). map datum_kind e.cells ≡ kinds);
  right_history = record { order = tt; real = refl; paired = λ cells start. omega arith };
  right_placed = All-nil (λ (e : Edge). ArePlaced texts e.cells);
}

pub group_longer : {S : Type 0} (key : List ℕ) (aggs : List Agg) (kinds : List CellKind) (new old : List (List ℕ)) (rows : RowsAndEnds) (running : IndexMap (List Datum) HeldRow S) (waiting : List Pending) (x : ℕ) (left right out : List Edge) →
    BeginsWith new old → KeepsGrouped key aggs kinds old rows running waiting x left right out → KeepsGrouped key aggs kinds new rows running waiting x left right out
group_longer key aggs kinds new old rows running waiting x left right out b k = record {
  group = k.group;
  low = k.low;
  left_placed = placed_longer new old b left k.left_placed;
  left_cells = k.left_cells;
  right_history = k.right_history;
  right_placed = placed_longer new old b right k.right_placed;
}

pub group_stands : {S : Type 0} (child : ℕ) (key : List ℕ) (aggs : List Agg) (kinds : List CellKind) (texts : List (List ℕ)) (rows : RowsAndEnds) (running : IndexMap (List Datum) HeldRow S) (waiting : List Pending) (x : ℕ) (left right out : List Edge) →
    AreDistinct texts → KeepsGrouped key aggs kinds texts rows running waiting x left right out → StandsRead texts x out (node_events (Group child key aggs) (read_of texts left) (read_of texts right))
group_stands child key aggs kinds texts rows running waiting x left right out apart k =
    keeps_read (λ test row. false) (λ items row. row) (Group child key aggs) texts x 0 left right out refl apart k.low (omega arith) (record {
      left_history = k.group.history;
      right_history = k.right_history;
      left_placed = k.left_placed;
      right_placed = k.right_placed;
      told = k.group.told;
    })
