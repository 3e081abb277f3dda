use Rattle.std.proofs.Common.{◌≡◌, ◌++◌, sym, subst, arith}
use Rattle.tw_rows.specs.Event.{alive}
use Rattle.tw_rows.proofs.Lives.{alive_known}
use Rattle.edge_history.specs.History.{of}
use Rattle.edge_history.specs.Order.{failing, is_real, is_from}
use Rattle.edge_history.proofs.Sums.{failing-parts}
use Rattle.edge_history.proofs.Retaining.{events_of_are, same_below}
use Rattle.edge_history.proofs.Waiting.{pending_then}
use Rattle.edge_stream.specs.Listing.{cells_of}
use Rattle.synopsis.proofs.Coalescing.{coalesced_told}
use Rattle.sweep_laws.proofs.Joins.{due_by_syncs}
use Rattle.sweep_sides.specs.Waiting.{queued}
use Rattle.sweep_sides.proofs.TakenIn.{side_taken}
use Rattle.coalesce_op.proofs.Steps.{queues_known}
use Rattle.coalesce_op.proofs.side.CoalesceSideSweep.advance.Goals as goal

pub returns-clause-kept : goal.returns-clause-kept
returns-clause-kept c = λ x y hl hr out closes k on.
    let s = c.args.self.now in
    let nl = c.args.left.now.edges in
    let from = c.args._from in
    let to = c.args.to in
    let low = c.requires.rises in
    let high = c.requires.low in
    let was = k.kept in
    let whole = on.left_history in
    let fresh = subst (λ n. failing (is_from n) nl ≡ 0) (sym closes) on.left_from in
    let d = c.in_ok-due.ensures in
    let due = c.in_ok-due.due.items in
    let rest = c.take_in.new.queue in
    let all = of (hl ++ nl) in
    let known = same_below from hl nl (of hl) all (omega (arith, low, high)) (failing-parts is_real hl nl whole.real).1 fresh (events_of_are hl was.history) (events_of_are (hl ++ nl) whole) in
    let is_due = due_by_syncs hl nl (queued s.waiting) due (queued rest) from to low high whole fresh was.waits d.parts (d.below k.timed) (d.rest k.timed) d.order in
    let told = c.in_ok-told.told.items in
    let swept = c.in_ok-told.ensures.swept all from to is_due (queues_known from (of hl) all s.queues (omega (arith, low, high)) known was.now) in
    record {
      kept = record {
        timed = d.timed k.timed;
        kept = record {
          low = high;
          history = whole;
          waits = pending_then hl nl (queued s.waiting) due (queued rest) from to low high whole fresh was.waits d.parts (d.below k.timed) (d.rest k.timed);
          now = swept.0;
          told = coalesced_told (alive (of hl)) (alive all) from to out told low high (λ u early. alive_known from u (of hl) all early (omega (arith, low, high)) known) was.told swept.1;
        };
      };
      tells = record { weigh = λ w. (let t = swept.1.weigh w in omega (arith, t)) };
    }

pub returns-clause-fits : goal.returns-clause-fits
returns-clause-fits c = λ s.
    let d = c.in_ok-due.ensures in
    side_taken (cells_of c.args.left.now) c.args._from c.args.to c.args.self.now.queues c.tell_due.new.queues c.args.self.now.waiting c.take_in.new.queue c.args.left.now.edges c.in_ok-due.due.items
    c.requires.rises s d.list.real d.cells d.parts (d.below s.timed) (d.rest s.timed) (d.timed s.timed)
    c.in_ok-told.ensures.rows
