use Rattle.std.proofs.Common.{arith}
use Rattle.end_queue.proofs.Putting.{queue_popped, none_due}
use Rattle.end_queue.proofs.EndQueue.pop_due.Goals.{in-Some, in-None}
use Rattle.end_queue.proofs.EndQueue.pop_due.Goals as goal

pub returns-then-word-key-clause-none : goal.returns-then-word-key-clause-none
returns-then-word-key-clause-none c =
    rw (← c.self.view_is) (none_due c.self.inside.edges.entries c.self.inside.next _ c.args.below c.self.invariant c.in_ok-key.ensures.first
    (let a = c.if-word-key.true in let b = c.word.ensures.word in omega (arith, a, b)))

pub invariant_of-self : goal.invariant_of-self
invariant_of-self c = elim c.match-pop_first.branch [
  | in-Some w ↦ queue_popped c.self.inside.edges.entries c.pop_first.new.self.entries _ c.self.inside.next w.in-Some.ensures.removal c.self.invariant
  | in-None w ↦ rw (w.in-None.ensures.unchanged) c.self.invariant
]
