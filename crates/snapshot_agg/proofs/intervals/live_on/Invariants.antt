use Rattle.std.specs.Prelude.{All}
use Rattle.std.proofs.Common.{◌≡◌, ◌≤◌, ◌-◌, List, map}
use Rattle.tw_rows.specs.Cells.{datum_kind}
use Rattle.tw_rows.specs.declared.edge.Edge.{Edge}
use Rattle.edge_history.specs.Order.{Rises, IsReal}
use Rattle.sweep_sides.specs.Waiting.{AreTimed}
use Rattle.snapshot_agg.specs.Counting.{IsCounted}
use Rattle.snapshot_agg.specs.Living.{AreLived, AreLate, to_come}
use Rattle.snapshot_agg.specs.Totaled.{run_of}
use Rattle.snapshot_agg.proofs.intervals.live_on.Given as goal

abbrev pub decreases-loop-to : goal.decreases-loop-to
decreases-loop-to l = l.to - l.done

abbrev pub invariant-loop-to : goal.invariant-loop-to
invariant-loop-to l = record {
  high : l.done ≤ l.to;
  counted : IsCounted l.groups;
  order : Rises 0 l.cursor.edges;
  real : All IsReal l.cursor.edges;
  lived : (due : List Edge) × AreLived l.fn.groups.key.items l.fn.groups.aggs.items l.fn.groups.rows.rows.held l.groups.rows.rows.held (run_of l.fn.running) (run_of l.running)
      (to_come l.fn.groups.rows.rows.ends l.fn.waiting l.fn.cursor.edges) (to_come l.groups.rows.rows.ends l.waiting l.cursor.edges) l.fn.from l.done l.fn.answer.items l.answer.items due;
  late : AreLate l.fn.from (to_come l.fn.groups.rows.rows.ends l.fn.waiting l.fn.cursor.edges) → AreLate l.done (to_come l.groups.rows.rows.ends l.waiting l.cursor.edges);
  own : AreTimed l.fn.waiting → AreTimed l.waiting;
  kinds : l.cursor.kinds ≡ l.fn.cursor.kinds;
  cells : All (λ e. map datum_kind e.cells ≡ l.fn.cursor.kinds) l.cursor.edges → All (λ e. map datum_kind e.cells ≡ l.fn.cursor.kinds) l.fn.cursor.edges;
  same_key : l.groups.key ≡ l.fn.groups.key;
  same_aggs : l.groups.aggs ≡ l.fn.groups.aggs;
}
