use Rattle.std.proofs.Common.{◌≡◌, ◌++◌, ℕ, Bool, List, sym, ap, subst, arith}
use Rattle.tw_rows.specs.Bag.{total}
use Rattle.tw_rows.specs.Event.{alive}
use Rattle.tw_rows.specs.declared.cells.Datum.{Datum}
use Rattle.tw_rows.specs.declared.edge.Edge.{Edge}
use Rattle.tw_rows.proofs.Lives.{alive_known}
use Rattle.edge_history.specs.History.{of}
use Rattle.edge_history.specs.Order.{is_below, is_from, is_real, failing}
use Rattle.edge_history.specs.Opens.{started_rows}
use Rattle.edge_history.proofs.Sums.{failing-parts}
use Rattle.edge_history.proofs.Retaining.{events_of_are, same_below}
use Rattle.edge_history.proofs.Waiting.{pending_then}
use Rattle.edge_stream.specs.Listing.{cells_of}
use Rattle.key_nodes.proofs.Topping.{top_rows_same}
use Rattle.synopsis.proofs.Coalescing.{coalesced_told}
use Rattle.sweep_laws.specs.Sweeps.{IsDue, Tells}
use Rattle.sweep_laws.proofs.Joins.{due_by_syncs}
use Rattle.sweep_sides.specs.Waiting.{queued}
use Rattle.sweep_sides.proofs.TakenIn.{side_taken}
use Rattle.outer_top.specs.TopKeys.{kept_rows, meets, value_of}
use Rattle.outer_top.specs.TopEvents.{tops_at, tops, AreSettled}
use Rattle.outer_top.specs.States.{TopKeeps}
use Rattle.outer_top.specs.Sweeping.{has_begun}
use Rattle.outer_top.proofs.TopSides.{held_known, shown_begun}
use Rattle.outer_top.proofs.TopSteps.{for_like}
use Rattle.outer_top.proofs.side.TopSideSweep.advance.Goals as goal

pub returns-clause-kept : goal.returns-clause-kept
returns-clause-kept c = λ x y hl hr out closes k on.
    let s = c.args.self.now in
    let columns = s.tops.key.columns in
    let by = s.tops.by in
    let most = s.tops.most in
    let new = c.sweep.new.tops in
    let shown = c.sweep.new.queues in
    let nl = c.args.left.now.edges in
    let from = c.args._from in
    let to = c.args.to in
    let low = c.requires.rises in
    let high = c.requires.low in
    let was = k.kept in
    let whole = on.left_history in
    let fresh = subst (λ n. failing (is_from n) nl ≡ 0) (sym closes) on.left_from in
    let d = c.in_ok-due.ensures in
    let due = c.in_ok-due.due.items in
    let rest = c.take_in.new.queue in
    let told = c.sweep.new.answer.items in
    let all = of (hl ++ nl) in
    let known = same_below from hl nl (of hl) all (omega (arith, low, high)) (failing-parts is_real hl nl whole.real).1 fresh (events_of_are hl was.history) (events_of_are (hl ++ nl) whole) in
    let is_due = due_by_syncs hl nl (queued s.waiting) due (queued rest) from to low high whole fresh was.waits d.parts (d.below k.timed) (d.rest k.timed) d.order in
    let swept = c.in_ok-sweep.ensures.swept all from to (subst (IsDue all from to) (sym c.as_slice.ensures.value) is_due)
    (held_known columns by most from (of hl) all s.tops.keys.entries s.queues (omega (arith, low, high)) known (record { keys = k.settled; kept = was.rows_are; queues = was.queues })) in
    let tells = subst (λ (l : List Edge). Tells (tops columns by most all) from to l told) c.new-answer.ensures.items swept.1 in
    let like = c.in_ok-sweep.ensures.like in
    record {
      kept = record {
        timed = d.timed k.timed;
        settled = for_like (λ cs b ms. AreSettled cs b ms new.keys.entries) new.key.columns columns new.by by new.most most (sym like.key) (sym like.by) (sym like.most) swept.0.keys;
        kept = for_like (λ cs b ms. TopKeeps cs b ms (kept_rows new.keys.entries) (queued rest) shown to (hl ++ nl) (out ++ told)) new.key.columns columns new.by by new.most most (sym like.key) (sym like.by) (sym like.most)
            (record {
              low = high;
              history = whole;
              waits = pending_then hl nl (queued s.waiting) due (queued rest) from to low high whole fresh was.waits d.parts (d.below k.timed) (d.rest k.timed);
              rows_are = swept.0.kept;
              queues = swept.0.queues;
              told = coalesced_told (tops_at columns by most (of hl)) (tops_at columns by most all) from to out told low high
                  (λ u early. top_rows_same (meets columns) (value_of by) most (alive (of hl) u) (alive all u) (alive_known from u (of hl) all early (omega (arith, low, high)) known)) was.told tells;
            });
      };
      tells = record { weigh = λ w. (let t = tells.weigh w in omega (arith, t)) };
    }

pub returns-clause-fits : goal.returns-clause-fits
returns-clause-fits c = λ f.
    let s = f.side in
    let d = c.in_ok-due.ensures in
    let q = c.args.self.now.queues in
    let q2 = c.sweep.new.queues in
    let kept = kept_rows c.args.self.now.tops.keys.entries in
    let low = c.requires.rises in
    record {
      side = side_taken (cells_of c.args.left.now) c.args._from c.args.to kept (kept_rows c.sweep.new.tops.keys.entries) c.args.self.now.waiting c.take_in.new.queue c.args.left.now.edges c.in_ok-due.due.items
          low s d.list.real d.cells d.parts (d.below s.timed) (d.rest s.timed) (d.timed s.timed)
          (λ w. let f = c.in_ok-sweep.ensures.rows w in let e = ap (λ l. total w (started_rows l)) c.as_slice.ensures.value in omega (arith, f, e));
      shown = shown_begun (cells_of c.args.left.now) c.args._from c.args.to kept q q2 (queued c.args.self.now.waiting) (queued c.take_in.new.queue) c.args.left.now.edges c.in_ok-due.due.items
          low s.later s.started d.list.real d.cells d.parts (d.below s.timed)
          (subst (λ l. (to : ℕ) (p : List Datum → Bool) → failing (is_below to) l ≡ 0 → failing (λ x. p x.cells) l ≡ 0 → failing (λ r. p r.cells) kept ≡ 0 → failing (has_begun to p) q ≡ 0 → failing (has_begun to p) q2 ≡ 0)
          c.as_slice.ensures.value c.in_ok-sweep.ensures.queues)
          f.shown;
    }
