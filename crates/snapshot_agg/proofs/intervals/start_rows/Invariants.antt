use Rattle.std.specs.Prelude.{All}
use Rattle.std.proofs.Common.{◌≡◌, ◌*◌, List, map, suc, length}
use Rattle.tw_rows.specs.Cells.{datum_kind}
use Rattle.tw_rows.specs.declared.edge.Edge.{Edge}
use Rattle.edge_history.specs.Order.{failing, is_from, Rises, IsReal}
use Rattle.sweep_laws.specs.Grouping.{keys_of}
use Rattle.sweep_sides.specs.Waiting.{queued, AreTimed}
use Rattle.snapshot_agg.specs.Counting.{IsCounted}
use Rattle.snapshot_agg.specs.Living.{AreBegun, TouchesAll, to_come}
use Rattle.snapshot_agg.specs.Words.{key_data}
use Rattle.snapshot_agg.proofs.intervals.start_rows.Given as goal

abbrev pub decreases-loop-edge : goal.decreases-loop-edge
decreases-loop-edge l = length l.cursor.edges

abbrev pub invariant-loop-edge : goal.invariant-loop-edge
invariant-loop-edge l = record {
  counted : IsCounted l.groups;
  order : Rises (suc (2 * l.t)) l.cursor.edges;
  real : All IsReal l.cursor.edges;
  begun : (begun : List Edge) × AreBegun begun l.t l.fn.groups.rows.rows.held l.groups.rows.rows.held
      (to_come l.fn.groups.rows.rows.ends l.fn.waiting l.fn.cursor.edges) (to_come l.groups.rows.rows.ends l.waiting l.cursor.edges)
      × TouchesAll l.fn.groups.touched.items l.groups.touched.items (keys_of (key_data l.fn.groups.key.items) begun);
  own : AreTimed l.fn.waiting → AreTimed l.waiting;
  late : failing (is_from (suc l.t)) (queued l.fn.waiting) ≡ 0 → failing (is_from (suc l.t)) (queued l.waiting) ≡ 0;
  kinds : l.cursor.kinds ≡ l.fn.cursor.kinds;
  cells : All (λ e. map datum_kind e.cells ≡ l.fn.cursor.kinds) l.cursor.edges → All (λ e. map datum_kind e.cells ≡ l.fn.cursor.kinds) l.fn.cursor.edges;
  same_key : l.groups.key ≡ l.fn.groups.key;
  same_aggs : l.groups.aggs ≡ l.fn.groups.aggs;
}
