use Rattle.std.proofs.Common.{◌<◌, ◌-◌, length, sym, subst, arith}
use Rattle.lane_expr.specs.Steps.{IsStepWithin}
use Rattle.lane_expr.proofs.Typing.{IsStepWithin-at, AreSteps-some}
use Rattle.lane_expr.proofs.kernel.Kernel.kind.Goals as goal

pub kind_of-requires : goal.kind_of-requires
kind_of-requires c =
    let ss = c.self.inside.steps.items in
    let low : c.len.result - 1 < length ss = let some = AreSteps-some _ _ c.self.invariant.0 in omega (arith, c.len.ensures, some) in
    subst (λ ks. IsStepWithin ks c.index.result.now) (sym c.as_slice.ensures.value)
    (subst (IsStepWithin c.self.inside.kinds.items) (sym c.index.ensures) (IsStepWithin-at c.self.inside.kinds.items ss (c.len.result - 1) c.index.result.now c.self.invariant.0 low))
