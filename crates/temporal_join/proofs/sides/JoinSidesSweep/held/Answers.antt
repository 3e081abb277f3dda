use Rattle.std.proofs.Common.{arith}
use Rattle.temporal_join.proofs.Resuming.{entries_are}
use Rattle.temporal_join.proofs.sides.JoinSidesSweep.held.Goals as goal

pub returns : goal.returns
returns c =
    let a = entries_are c.args.self.now in
    let l = c.kept_count-left.ensures in
    let r = c.kept_count-right.ensures in
    let fl = c.few_count-few_left.ensures in
    let fr = c.few_count-few_right.ensures in
    let x = c.saturating_add.ensures in
    let y = c.saturating_add-2.ensures in
    let z = c.saturating_add-3.ensures in
    omega (arith, a, l, r, fl, fr, x, y, z)
