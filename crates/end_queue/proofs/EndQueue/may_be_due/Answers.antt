use Rattle.std.specs.Prelude.{◌≤◌}
use Rattle.std.proofs.Common.{arith}
use Rattle.std.proofs.lemmas.Bool.Decides.{nat_tests}
use Rattle.end_queue.proofs.Putting.{none_due}
use Rattle.end_queue.proofs.EndQueue.may_be_due.Goals as goal

pub returns : goal.returns
returns c = λ late.
    let a = c.word.ensures.word in
    let low : c.args.below ≤ c.in-Some.key.now.0 = grind (arith, nat_tests, a, late) in
    rw (← c.self.view_is) (none_due c.self.inside.edges.entries c.self.inside.next _ c.args.below c.self.invariant c.in-Some.ensures.first low)
