use Rattle.std.specs.Prelude.{◌<◌, length}
use Rattle.std.proofs.Common.{arith}
use Rattle.std.proofs.lemmas.List.Sorted.{IsNonDecreasingBy-from_all_adjacent}
use Rattle.edge_history.specs.Order.{rank}
use Rattle.edge_history.proofs.Rising.{rises_from_sorted}
use Rattle.snapshot_agg.proofs.PuttingOff.{ranks_rise}
use Rattle.snapshot_agg.proofs.waiting.are_in_order.Goals as goal

pub loop-i-init : goal.loop-i-init
loop-i-init c = λ k d low. absurd (omega (arith, low))

pub loop-i-preserved : goal.loop-i-preserved
loop-i-preserved c =
    let low : c.loop-i.i < length c.args.due.now = omega arith in
    ranks_rise c.args.due.now c.loop-i.i c.index-due-i.result c.index-due-i-in-loop-i.result (omega arith) low c.index-due-i.is c.index-due-i-in-loop-i.is (c.comes_behind.ensures c.if-not-comes_behind.false) c.loop-i.invariant

pub returns : goal.returns
returns c = λ e.
    let z = c.loop-i-test.false in
    rises_from_sorted c.args.due.now (IsNonDecreasingBy-from_all_adjacent rank c.args.due.now (λ k d low. c.loop-i.invariant k d (omega (arith, z, low))))
