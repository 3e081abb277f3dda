use Rattle.std.specs.Prelude.{cond}
use Rattle.std.proofs.Common.{arith}
use Rattle.edge_history.specs.Order.{is_below}
use Rattle.sweep_sides.proofs.TakenIn.{below_then}
use Rattle.sweep_sides.proofs.taking.take_edge.Goals as goal

pub returns-clause-parts : goal.returns-clause-parts
returns-clause-parts c = λ w.
    let a = c.in_ok-release.ensures.parts w in
    let b = c.in_ok-push_due.ensures.parts w in
    omega (arith, a, b)

pub returns-clause-early : goal.returns-clause-early
returns-clause-early c = λ h.
    let a = c.in_ok-release.ensures.parts (λ e. cond (is_below c.args.to e) 0 1) in
    let due = c.in_ok-push_due.ensures.early (below_then c.args.edge c.args.to c.is_due.result c.is_due.ensures c.if-not-is_due.false) (omega (arith, a, h)) in
    let ends = c.in_ok-push_due.ensures.ends_early (omega (arith, a, h)) in
    omega (arith, a, h, due, ends)
