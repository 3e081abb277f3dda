use Rattle.std.proofs.Common.{◌≡◌, ◌+◌, ℕ, map, length}
use Rattle.tw_rows.specs.Bag.{total}
use Rattle.tw_rows.specs.declared.edge.HeldRow.{HeldRow}
use Rattle.edge_history.specs.Order.{failing, is_end}
use Rattle.sweep_laws.specs.Sweeps.{SyncsRise}
use Rattle.sweep_sides.specs.Waiting.{queued, AreTimed}
use Rattle.snapshot_agg.specs.Changing.{StayTogether}
use Rattle.snapshot_agg.specs.KeptRows.{row_ended}
use Rattle.snapshot_agg.proofs.lives.settle_all.Given as goal

abbrev pub decreases-loop-end : goal.decreases-loop-end
decreases-loop-end l = length l.ends.items

abbrev pub invariant-loop-end : goal.invariant-loop-end
invariant-loop-end l = record {
  fine : SyncsRise 0 l.fn.ends.items × (failing is_end l.fn.ends.items ≡ 0) → SyncsRise 0 l.ends.items × (failing is_end l.ends.items ≡ 0);
  rows : (w : HeldRow → ℕ) → total w l.others.rows + total w (map row_ended l.ends.items) ≡ total w l.fn.others.rows + total w (map row_ended l.fn.ends.items);
  pending : StayTogether l.fn.ends.items (queued l.fn.waiting) l.ends.items (queued l.waiting);
  own : AreTimed l.fn.waiting → AreTimed l.waiting;
}
