use Rattle.std.proofs.Common.{◌∙◌, ap, arith}
use Rattle.end_queue.specs.Pending.{put_pending}
use Rattle.end_queue.proofs.Putting.{queue_put, queue_shows}
use Rattle.end_queue.proofs.EndQueue.put.Goals as goal

pub invariant_of-self-2 : goal.invariant_of-self-2
invariant_of-self-2 c =
    queue_put c.self.inside.edges.entries c.insert.new.self.entries c.self.inside.next c.in-Some.next c.args.at c.word.result c.args.edge
    c.in_ok-insert.ensures.entries (let a = c.in-Some.ensures in omega (arith, a)) c.word.ensures.word c.word.ensures.within c.self.invariant

pub returns-clause-ok : goal.returns-clause-ok
returns-clause-ok c =
    queue_shows c.self.inside.edges.entries c.insert.new.self.entries c.self.inside.next c.args.at c.word.result c.args.edge
    c.in_ok-insert.ensures.entries c.word.ensures.word c.self.invariant
    ∙ ap (λ ps. put_pending (record { at = c.args.at; edge = c.args.edge }) ps) c.self.view_is
