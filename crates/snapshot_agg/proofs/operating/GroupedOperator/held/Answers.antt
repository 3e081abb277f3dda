use Rattle.std.specs.Prelude.{◌≡◌, ◌*◌, ◌-◌, ◌^◌, min, length}
use Rattle.std.proofs.Common.{ap, arith}
use Rattle.snapshot_agg.proofs.Holding.{min_times}
use Rattle.snapshot_agg.proofs.Queueing.{pending_length}
use Rattle.snapshot_agg.proofs.operating.GroupedOperator.held.Goals as goal

pub returns : goal.returns
returns c =
    let s = c.args.self.now in
    let g = s.groups in
    let bags : min (c.len-rows.result * length c.as_slice.result.now) (2 ^ 64 - 1) ≡ min (length g.rows.rows.held * length g.aggs.items) (2 ^ 64 - 1) =
    min_times (length g.rows.rows.held) (length g.aggs.items) (2 ^ 64 - 1) c.len-rows.result (length c.as_slice.result.now) c.len-rows.ensures (ap length c.as_slice.ensures.value) in
    let pending = pending_length g.rows.rows.ends s.waiting in
    omega (
      arith,
      bags,
      pending,
      c.len-rows.ensures,
      c.len-keys.ensures.len,
      c.len-runs.ensures.len,
      c.len-waiting.ensures,
      c.ends_len-ends.ensures,
      c.saturating_mul-bags.ensures,
      c.saturating_add.ensures,
      c.saturating_add-2.ensures,
      c.saturating_add-3.ensures,
      c.saturating_add-4.ensures,
      c.saturating_add-5.ensures,
    )
