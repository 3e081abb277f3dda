use Rattle.std.proofs.Common.{◌≡◌, ◌++◌, List, sym, ap, subst, arith, map}
use Rattle.tw_rows.specs.Bag.{total}
use Rattle.edge_history.specs.History.{CellEvent, of}
use Rattle.edge_history.specs.Opens.{started_rows}
use Rattle.edge_stream.specs.Listing.{cells_of}
use Rattle.sweep_laws.specs.Sweeps.{IsDue}
use Rattle.sweep_laws.specs.Unending.{unending}
use Rattle.sweep_sides.specs.Waiting.{queued}
use Rattle.session_window.specs.Holding.{SessionKeeps}
use Rattle.session_window.proofs.Steps.{session_step}
use Rattle.sweep_sides.proofs.Starting.{starts_are, starts_stepped, starts_stay}
use Rattle.tw_rows.specs.Bag.{SameBag}
use Rattle.edge_history.specs.Balance.{news}
use Rattle.edge_history.specs.Order.{failing, is_from}
use Rattle.session_window.proofs.Answering.{windows_are}
use Rattle.session_window.proofs.Likes.{by_now}
use Rattle.session_window.proofs.side.SessionSideSweep.advance.Goals as goal

pub returns-clause-kept : goal.returns-clause-kept
returns-clause-kept c = λ x y hl hr out closes k on.
    let s = c.args.self.now.sessions in
    let pos = k.positive in
    let whole = on.left_history in
    let from = subst (λ n. failing (is_from n) c.args.left.now.edges ≡ 0) (sym closes) on.left_from in
    let after = c.sweep.new.self in
    let new = c.args.left.now.edges in
    let to = c.args.from in
    let to2 = c.args.to in
    let timed = c.in_ok-put_starts.ensures.timed k.timed in
    let d = c.in_ok-due.ensures in
    let z = session_step s.rows.key s.timeout pos to to2 hl new (queued c.args.self.now.waiting) (queued c.put_starts.new.queue) (queued c.take_due.new.queue) c.in_ok-due.due.items
    c.requires.rises c.requires.low whole from
    (λ w. (let a = c.in_ok-put_starts.ensures.put w in let b = starts_are w new c.put_starts.ensures.order.real in omega (arith, a, b)))
    d.parts (d.below timed) (d.rest timed) (d.order timed)
    s.rows.rows after.rows.rows s.ends after.ends out c.new-answer.result.items c.sweep.new.answer.items k.kept c.new-answer.ensures.items
    (λ due h. c.in_ok-sweep.ensures.swept (map unending (of (hl ++ new))) pos (subst (IsDue (map unending (of (hl ++ new))) to to2) (sym c.as_slice.ensures.value) due) h) in
    let like = c.in_ok-sweep.ensures.like in
    record {
      kept = record {
        positive = (let e = like.timeout in omega (arith, e, pos));
        timed = d.timed timed;
        kept = by_now (λ n l. SessionKeeps l n after.rows.rows after.ends (queued c.take_due.new.queue) to2 (hl ++ new) (out ++ c.sweep.new.answer.items)) s after c.in_ok-sweep.ensures.like z.0;
      };
      tells = subst (λ (es : List CellEvent). SameBag c.sweep.new.answer.items (news to to2 es)) (windows_are s.rows.key s.timeout (of (hl ++ new)) (of (hr ++ c.args._right.now.edges)) pos) z.1;
    }

pub returns-clause-fits : goal.returns-clause-fits
returns-clause-fits c = λ a.
    let s = c.args.self.now.sessions in
    let timed = c.in_ok-put_starts.ensures.timed a.side.timed in
    let d = c.in_ok-due.ensures in
    record {
      side = starts_stepped (cells_of c.args.left.now) c.args.from c.args.to s.rows.rows c.sweep.new.self.rows.rows c.args.self.now.waiting c.put_starts.new.queue c.take_due.new.queue c.args.left.now.edges c.in_ok-due.due.items
          c.requires.rises a.side c.put_starts.ensures.order.real c.in_ok-put_starts.ensures.cells c.in_ok-put_starts.ensures.put d.parts (d.below timed) (d.rest timed) (d.timed timed)
          (λ w. (let f = c.in_ok-sweep.ensures.rows w in let e = ap (λ l. total w (started_rows l)) c.as_slice.ensures.value in omega (arith, f, e)));
      starts = starts_stay c.args.self.now.waiting c.put_starts.new.queue c.take_due.new.queue c.args.left.now.edges c.in_ok-due.due.items c.put_starts.ensures.order.real a.starts c.in_ok-put_starts.ensures.put d.parts;
    }
