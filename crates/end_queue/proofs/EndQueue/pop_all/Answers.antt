use Rattle.std.specs.Prelude.{◌≡◌, ◌++◌, List, map}
use Rattle.tw_rows.specs.declared.edge.Edge.{Edge}
use Rattle.std.proofs.Common.{◌∙◌, sym, ap}
use Rattle.end_queue.specs.Stored.{Stored, pending_of}
use Rattle.end_queue.proofs.Putting.{all_past, all_later, shown_parts, queue_left, edges_shown}
use Rattle.end_queue.proofs.EndQueue.pop_all.Goals as goal

pub returns : goal.returns
returns c =
    let lower = c.split_off.new.self.entries in
    let upper = c.in_ok-rest.rest.entries in
    let left : c.replace-taken.new.dest.entries ≡ upper = ap (λ m. m.entries) c.replace-taken.ensures.after in
    let taken : c.replace-taken.result.entries ≡ lower = ap (λ m. m.entries) c.replace-taken.ensures.value in (
      map pending_of lower,
      sym c.self.view_is ∙ (ap (map pending_of) c.in_ok-rest.ensures.parts ∙ (shown_parts lower upper ∙ ap (λ (l : List Stored). map pending_of lower ++ map pending_of l) (sym left))),
      c.in_ok-push_all.ensures ∙ ap (λ (l : List Edge). c.args.due.now.items ++ l) (ap (map (λ (e : Stored). e.1)) taken ∙ edges_shown lower),
      all_past lower c.word.result c.args.below c.word.ensures.word c.in_ok-rest.ensures.all_below,
      rw left (all_later upper c.word.result c.args.below c.word.ensures.word c.in_ok-rest.ensures.all_from),
    )

pub invariant_of-self : goal.invariant_of-self
invariant_of-self c = rw (c.in_err-rest.ensures.err) c.self.invariant

pub invariant_of-self-in_err-push_all : goal.invariant_of-self-in_err-push_all
invariant_of-self-in_err-push_all c =
    rw (ap (λ m. m.entries) c.replace-taken.ensures.after) (queue_left c.split_off.new.self.entries c.in_ok-rest.rest.entries c.self.inside.next (rw (← c.in_ok-rest.ensures.parts) c.self.invariant))

pub invariant_of-self-2 : goal.invariant_of-self-2
invariant_of-self-2 c =
    rw (ap (λ m. m.entries) c.replace-taken.ensures.after) (queue_left c.split_off.new.self.entries c.in_ok-rest.rest.entries c.self.inside.next (rw (← c.in_ok-rest.ensures.parts) c.self.invariant))
