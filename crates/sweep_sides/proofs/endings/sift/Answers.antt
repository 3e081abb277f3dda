use Rattle.std.proofs.Common.{arith}
use Rattle.std.proofs.lemmas.List.Sorted.{IsPermutation-trans}
use Rattle.sweep_sides.proofs.endings.sift.Goals as goal

pub loop-left-preserved : goal.loop-left-preserved
loop-left-preserved c =
    let l = c.swap.ensures.len in
    let i = c.loop-left.invariant.within in
    record { same = IsPermutation-trans _ _ _ c.loop-left.invariant.same c.swap.ensures.permutation; within = omega (arith, l, i) }
