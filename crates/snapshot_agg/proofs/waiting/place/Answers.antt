use Rattle.std.proofs.Common.{arith}
use Rattle.snapshot_agg.proofs.PuttingOff.{pushed, below_push}
use Rattle.snapshot_agg.proofs.waiting.place.Goals as goal

pub returns-then-is_due-clause-parts : goal.returns-then-is_due-clause-parts
returns-then-is_due-clause-parts c = λ w. let a = pushed w c.args.due.now.items c.push.new.self.items c.args.edge c.in_ok-push.ensures.items in omega (arith, a)

pub returns-then-is_due-clause-below : goal.returns-then-is_due-clause-below
returns-then-is_due-clause-below c = λ h.
    below_push c.args.to c.args.due.now.items c.push.new.self.items c.args.edge c.in_ok-push.ensures.items (c.is_due.ensures.0 c.if-is_due.true) h

pub returns-clause-parts : goal.returns-clause-parts
returns-clause-parts c = λ w. let a = c.in_ok-put.ensures.edges w in omega (arith, a)
