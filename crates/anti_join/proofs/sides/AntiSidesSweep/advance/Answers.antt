use Rattle.std.proofs.Common.{ℕ, ◌≤◌, ◌++◌, ◌∙◌, List, sym, ap, subst, arith}
use Rattle.tw_rows.specs.declared.edge.Edge.{Edge}
use Rattle.edge_history.specs.Order.{failing, is_below, many}
use Rattle.sweep_laws.specs.Saving.{HaveBegun}
use Rattle.sweep_laws.proofs.Stored.{begun_later, due_begun, due_wait}
use Rattle.tw_rows.specs.Bag.{total}
use Rattle.edge_history.specs.History.{of}
use Rattle.edge_history.specs.Opens.{started_rows}
use Rattle.edge_stream.specs.Listing.{cells_of}
use Rattle.sweep_laws.specs.Sweeps.{IsDue}
use Rattle.sweep_sides.specs.Waiting.{queued}
use Rattle.synopsis.specs.Held.{is_of_key}
use Rattle.sweep_sides.proofs.Telling.{from_lesser}
use Rattle.anti_join.specs.States.{AreSides}
use Rattle.sweep_sides.proofs.TakenIn.{both, both_weighs, both_parted, side_taken}
use Rattle.anti_join.proofs.RowKeys.{by_then, kept_by}
use Rattle.anti_join.proofs.Steps.{anti_step, anti_news}
use Rattle.anti_join.proofs.sides.AntiSidesSweep.advance.Goals as goal

pub returns-clause-kept : goal.returns-clause-kept
returns-clause-kept c = λ x y hl hr out closes k on.
    let s = c.args.self.now in
    let from = c.args._from in
    let low = c.requires.rises in
    let wl = on.left_history in
    let wr = on.right_history in
    let fl = from_lesser from x c.args.left.now.edges (omega (arith, closes)) on.left_from in
    let fr = from_lesser from y c.args.right.now.edges (omega (arith, closes)) on.right_from in
    let lk = s.rows.left.key in
    let rk = s.rows.right.key in
    let later = c.sweep.new.self in
    let keys = c.in_ok-sweep.ensures.keys in
    let nl = c.args.left.now.edges in
    let nr = c.args.right.now.edges in
    let to2 = c.args.to in
    let high = c.requires.low in
    let tl = k.left_timed in
    let tr = k.right_timed in
    let ql = c.take_in.new.queue in
    let qr = c.take_in-2.new.queue in
    let dl = c.in_ok-left_due.ensures in
    let dr = c.in_ok-right_due.ensures in
    let by = by_then s.rows later keys k.by in
    record {
      kept = record {
        by = by;
        single = λ l. subst (λ (key : List ℕ). many (is_of_key key l) later.times.rows ≤ 1) by.times (c.len.ensures.single l);
        left_timed = dl.timed tl;
        right_timed = dr.timed tr;
        kept = kept_by s.rows later (queued ql) (queued qr) to2
            (hl ++ nl) (hr ++ nr) (out ++ c.sweep.new.answer.items) keys
            (anti_step lk rk from to2 hl hr nl nr
            (queued s.left_waiting) (both s.left_waiting nl) (queued ql) c.in_ok-left_due.left_due.items
            (queued s.right_waiting) (both s.right_waiting nr) (queued qr) c.in_ok-right_due.right_due.items
            low high wl wr fl fr (both_weighs s.left_waiting nl) (both_weighs s.right_waiting nr)
            (both_parted s.left_waiting ql nl c.in_ok-left_due.left_due.items dl.parts) (both_parted s.right_waiting qr nr c.in_ok-right_due.right_due.items dr.parts)
            (dl.below tl) (dr.below tr) (dl.rest tl) (dr.rest tr) dl.order dr.order
            s.rows.left.rows later.left.rows s.rows.right.rows later.right.rows s.rows.times.rows later.times.rows out c.new-answer.result.items c.sweep.new.answer.items k.kept c.new-answer.ensures.items
            (λ da db h. c.in_ok-sweep.ensures.swept (of (hl ++ nl)) (of (hr ++ nr)) from to2 k.by
            (subst (IsDue (of (hl ++ nl)) from to2) (sym c.as_slice.ensures.value) da) (subst (IsDue (of (hr ++ nr)) from to2) (sym c.as_slice-2.ensures.value) db) h));
      };
      tells = anti_news lk rk from to2 hl hr nl nr
          (queued s.left_waiting) (both s.left_waiting nl) (queued ql) c.in_ok-left_due.left_due.items
          (queued s.right_waiting) (both s.right_waiting nr) (queued qr) c.in_ok-right_due.right_due.items
          low high wl wr fl fr (both_weighs s.left_waiting nl) (both_weighs s.right_waiting nr)
          (both_parted s.left_waiting ql nl c.in_ok-left_due.left_due.items dl.parts) (both_parted s.right_waiting qr nr c.in_ok-right_due.right_due.items dr.parts)
          (dl.below tl) (dr.below tr) (dl.rest tl) (dr.rest tr) dl.order dr.order
          s.rows.left.rows later.left.rows s.rows.right.rows later.right.rows s.rows.times.rows later.times.rows out c.new-answer.result.items c.sweep.new.answer.items k.kept c.new-answer.ensures.items
          (λ da db h. c.in_ok-sweep.ensures.swept (of (hl ++ nl)) (of (hr ++ nr)) from to2 k.by
          (subst (IsDue (of (hl ++ nl)) from to2) (sym c.as_slice.ensures.value) da) (subst (IsDue (of (hr ++ nr)) from to2) (sym c.as_slice-2.ensures.value) db) h);
    }

pub returns-clause-fits : goal.returns-clause-fits
returns-clause-fits c = λ fit.
    let a = fit.sides in
    let s = c.args.self.now in
    let from = c.args._from in
    let low = c.requires.rises in
    let later = c.sweep.new.self in
    let dl = c.in_ok-left_due.ensures in
    let dr = c.in_ok-right_due.ensures in
    let tl = a.left.timed in
    let tr = a.right.timed in
    let kinds = cells_of c.args.left.now in
    let nl = c.args.left.now.edges in
    let sides : AreSides kinds (cells_of c.args.right.now) c.args.to (record { rows = later; left_waiting = c.take_in.new.queue; right_waiting = c.take_in-2.new.queue }) = record {
      left = side_taken (cells_of c.args.left.now) from c.args.to s.rows.left.rows later.left.rows s.left_waiting c.take_in.new.queue c.args.left.now.edges c.in_ok-left_due.left_due.items
          low a.left c.take_in.ensures.list.real dl.cells dl.parts (dl.below tl) (dl.rest tl) (dl.timed tl)
          (λ w. let f = c.in_ok-sweep.ensures.left_rows w in let e = ap (λ l. total w (started_rows l)) c.as_slice.ensures.value in omega (arith, f, e));
      right = side_taken (cells_of c.args.right.now) from c.args.to s.rows.right.rows later.right.rows s.right_waiting c.take_in-2.new.queue c.args.right.now.edges c.in_ok-right_due.right_due.items
          low a.right c.take_in-2.ensures.list.real dr.cells dr.parts (dr.below tr) (dr.rest tr) (dr.timed tr)
          (λ w. let f = c.in_ok-sweep.ensures.right_rows w in let e = ap (λ l. total w (started_rows l)) c.as_slice-2.ensures.value in omega (arith, f, e));
      times = c.in_ok-sweep.ensures.begun kinds c.args.to (ap (failing (is_below c.args.to)) c.as_slice.ensures.value ∙ dl.below tl) (ap (failing (is_below c.args.to)) c.as_slice-2.ensures.value ∙ dr.below tr)
          (subst (λ (l : List Edge). HaveBegun kinds c.args.to (started_rows l)) (sym c.as_slice.ensures.value)
          (due_begun kinds c.args.to c.in_ok-left_due.left_due.items
          (due_wait kinds from c.args.to (queued s.left_waiting) (both s.left_waiting nl) (queued c.take_in.new.queue) nl c.in_ok-left_due.left_due.items a.left.later c.take_in.ensures.list.real dl.cells
          (both_weighs s.left_waiting nl) (both_parted s.left_waiting c.take_in.new.queue nl c.in_ok-left_due.left_due.items dl.parts)) (dl.below tl)))
          (begun_later kinds from c.args.to s.rows.left.rows low a.left.started) (begun_later kinds from c.args.to s.rows.times.rows low a.times);
    } in
    record { by = by_then s.rows later c.in_ok-sweep.ensures.keys fit.by; sides = sides }
