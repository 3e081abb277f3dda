use Rattle.ingress.proofs.Below.{lists_below}
use Rattle.tests_of_parts.proofs.running.push_slices.Goals as goal

pub slice_end-requires : goal.slice_end-requires
slice_end-requires c =
    rw c.deref.ensures.value (lists_below c.time-p.result c.args.run.now.ingress.held.waiting.items c.in_ok-lists.lists.items c.in_ok-lists.ensures.edges.edges)
