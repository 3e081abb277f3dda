use Rattle.std.proofs.Common.{◌≡◌, ◌+◌, ◌++◌, ◌≤◌, ◌∙◌, ℕ, sym, ap, subst, arith, map}
use Rattle.std.specs.Prelude.{[], filter}
use Rattle.tw_rows.specs.Bag.{total}
use Rattle.tw_rows.specs.Instant.{inf}
use Rattle.tw_rows.specs.declared.edge.Edge.{Edge}
use Rattle.edge_history.specs.History.{of}
use Rattle.edge_history.specs.Opens.{started_rows, singles, is_start}
use Rattle.edge_history.proofs.Waiting.{starts_rest}
use Rattle.edge_stream.specs.Listing.{cells_of}
use Rattle.sweep_laws.specs.Sweeps.{IsDue}
use Rattle.sweep_laws.specs.Unending.{unending}
use Rattle.sweep_sides.specs.Waiting.{queued}
use Rattle.sweep_sides.proofs.Starting.{starts_are, starts_stepped, starts_stay}
use Rattle.follow_op.specs.Followed.{follows}
use Rattle.follow_op.specs.Intervals.{TellsAhead}
use Rattle.follow_op.proofs.Answering.{lives, known}
use Rattle.follow_op.proofs.KeyRules.{held_by}
use Rattle.follow_op.proofs.Steps.{held_known}
use Rattle.sweep_sides.proofs.DueStarts.{starts_due_are}
use Rattle.follow_op.proofs.sides.FollowSides.advance.Goals as goal

pub returns-clause-kept : goal.returns-clause-kept
returns-clause-kept c = λ from hl hr low pos k wl wr fl fr.
    let s = c.args.self.now in
    let lk = s.rows.left.key in
    let rk = s.rows.right_key.columns in
    let within = s.rows.within in
    let later = c.sweep.new.self in
    let nl = c.args.left.now.edges in
    let nr = c.args.right.now.edges in
    let a = of (hl ++ nl) in
    let b = of (hr ++ nr) in
    let to = c.args.to in
    let high = c.requires in
    let early : from ≤ inf = omega (arith, low, high) in
    let tl = c.in_ok-put_starts.ensures.timed k.left_timed in
    let tr = c.in_ok-put_starts-2.ensures.timed k.right_timed in
    let dl = c.in_ok-left_due.ensures in
    let dr = c.in_ok-right_due.ensures in
    let ql = queued s.left_waiting in
    let qr = queued s.right_waiting in
    let due_l = c.in_ok-left_due.left_due.items in
    let due_r = c.in_ok-right_due.right_due.items in
    let rest_l = queued c.take_due.new.queue in
    let rest_r = queued c.take_due-2.new.queue in
    let both_l : (w : Edge → ℕ) → total w due_l + total w rest_l ≡ total w ql + total w (filter is_start (singles nl)) =
    λ w. dl.parts w ∙ (c.in_ok-put_starts.ensures.put w ∙ ap (λ n. total w ql + n) (starts_are w nl c.put_starts.ensures.order.real)) in
    let both_r : (w : Edge → ℕ) → total w due_r + total w rest_r ≡ total w qr + total w (filter is_start (singles nr)) =
    λ w. dr.parts w ∙ (c.in_ok-put_starts-2.ensures.put w ∙ ap (λ n. total w qr + n) (starts_are w nr c.put_starts-2.ensures.order.real)) in
    let da = starts_due_are hl nl ql due_l rest_l from to low high wl fl k.left_waits both_l (dl.below tl) (dl.rest tl) (dl.order tl) in
    let db = starts_due_are hr nr qr due_r rest_r from to low high wr fr k.right_waits both_r (dr.below tr) (dr.rest tr) (dr.order tr) in
    let held = held_known lk rk within from from (of hl) a (of hr) b s.rows.left.rows s.rows.queue.items
    (known from hl nl early k.left_history wl fl) (known from hr nr early k.right_history wr fr) k.now in
    let p = c.in_ok-sweep.ensures.swept a b from pos (lives (hl ++ nl) wl) (lives (hr ++ nr) wr)
    (subst (IsDue (map unending a) from to) (sym c.as_slice.ensures.value) da) (subst (IsDue (map unending b) from to) (sym c.as_slice-2.ensures.value) db) held in (
      record {
        left_timed = dl.timed tl;
        right_timed = dr.timed tr;
        left_history = wl;
        right_history = wr;
        left_waits = starts_rest hl nl ql due_l rest_l from to low high wl fl k.left_waits both_l (dl.below tl) (dl.rest tl);
        right_waits = starts_rest hr nr qr due_r rest_r from to low high wr fr k.right_waits both_r (dr.below tr) (dr.rest tr);
        now = held_by s.rows later a b to to later.left.rows later.queue.items c.in_ok-sweep.ensures.keys p.0;
      },
      subst (λ l. TellsAhead (follows lk rk within a b) from to l c.sweep.new.answer.items) c.new-answer.ensures.items p.1,
    )

pub returns-clause-sides : goal.returns-clause-sides
returns-clause-sides c = λ from low a.
    let s = c.args.self.now in
    let later = c.sweep.new.self in
    let dl = c.in_ok-left_due.ensures in
    let dr = c.in_ok-right_due.ensures in
    let tl = c.in_ok-put_starts.ensures.timed a.left.timed in
    let tr = c.in_ok-put_starts-2.ensures.timed a.right.timed in
    record {
      left = starts_stepped (cells_of c.args.left.now) from c.args.to s.rows.left.rows later.left.rows s.left_waiting c.put_starts.new.queue c.take_due.new.queue c.args.left.now.edges
          c.in_ok-left_due.left_due.items low a.left c.put_starts.ensures.order.real c.in_ok-put_starts.ensures.cells c.in_ok-put_starts.ensures.put dl.parts (dl.below tl) (dl.rest tl) (dl.timed tl)
          (λ w. let f = c.in_ok-sweep.ensures.rows w in let e = ap (λ l. total w (started_rows l)) c.as_slice.ensures.value in omega (arith, f, e));
      right = starts_stepped (cells_of c.args.right.now) from c.args.to [] [] s.right_waiting c.put_starts-2.new.queue c.take_due-2.new.queue c.args.right.now.edges
          c.in_ok-right_due.right_due.items low a.right c.put_starts-2.ensures.order.real c.in_ok-put_starts-2.ensures.cells c.in_ok-put_starts-2.ensures.put dr.parts (dr.below tr) (dr.rest tr) (dr.timed tr)
          (λ w. (omega arith));
      left_starts = starts_stay s.left_waiting c.put_starts.new.queue c.take_due.new.queue c.args.left.now.edges c.in_ok-left_due.left_due.items c.put_starts.ensures.order.real a.left_starts
          c.in_ok-put_starts.ensures.put dl.parts;
      right_starts = starts_stay s.right_waiting c.put_starts-2.new.queue c.take_due-2.new.queue c.args.right.now.edges c.in_ok-right_due.right_due.items c.put_starts-2.ensures.order.real a.right_starts
          c.in_ok-put_starts-2.ensures.put dr.parts;
    }
