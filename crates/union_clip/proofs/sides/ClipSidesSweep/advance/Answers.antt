use Rattle.std.proofs.Common.{◌≡◌, ◌+◌, ◌++◌, ◌∙◌, ℕ, sym, ap, subst, arith, map}
use Rattle.std.specs.Prelude.{[], filter}
use Rattle.tw_rows.specs.Bag.{total}
use Rattle.tw_rows.specs.declared.edge.Edge.{Edge}
use Rattle.edge_history.specs.History.{of}
use Rattle.edge_history.specs.Opens.{started_rows, singles, is_start}
use Rattle.edge_stream.specs.Listing.{cells_of}
use Rattle.sweep_laws.specs.Sweeps.{IsDue}
use Rattle.sweep_laws.specs.Unending.{unending}
use Rattle.sweep_sides.specs.Waiting.{queued}
use Rattle.sweep_sides.proofs.KeptSides.{side_stepped}
use Rattle.union_clip.proofs.KeyRules.{kept_by}
use Rattle.sweep_sides.proofs.Telling.{from_lesser}
use Rattle.sweep_sides.proofs.Starting.{starts_are, starts_stepped, starts_stay}
use Rattle.union_clip.proofs.Steps.{clip_step, clip_news}
use Rattle.union_clip.proofs.sides.ClipSidesSweep.advance.Goals as goal

pub returns-clause-kept : goal.returns-clause-kept
returns-clause-kept c = λ x y hl hr out closes k on.
    let s = c.args.self.now in
    let from = c.args._from in
    let lk = s.rows.left.key in
    let rk = s.rows.right_key.columns in
    let later = c.sweep.new.self in
    let nl = c.args.left.now.edges in
    let nr = c.args.right.now.edges in
    let to2 = c.args.to in
    let low = c.requires.rises in
    let high = c.requires.low in
    let wl = on.left_history in
    let wr = on.right_history in
    let fl = from_lesser from x nl (omega (arith, closes)) on.left_from in
    let fr = from_lesser from y nr (omega (arith, closes)) on.right_from in
    let tl = c.in_ok-put_all.ensures.timed k.left_timed in
    let tr = c.in_ok-put_starts.ensures.timed k.right_timed in
    let dl = c.in_ok-left_due.ensures in
    let dr = c.in_ok-right_due.ensures in
    let put_r : (w : Edge → ℕ) → total w (queued c.put_starts.new.queue) ≡ total w (queued s.right_waiting) + total w (filter is_start (singles nr)) =
    λ w. c.in_ok-put_starts.ensures.put w ∙ ap (λ n. total w (queued s.right_waiting) + n) (starts_are w nr c.put_starts.ensures.order.real) in record {
      kept = record {
        left_timed = dl.timed tl;
        right_timed = dr.timed tr;
        kept = kept_by s.rows later later.left.rows (queued c.take_due.new.queue) (queued c.take_due-2.new.queue) to2
            (hl ++ nl) (hr ++ nr) (out ++ c.sweep.new.answer.items) c.in_ok-sweep.ensures.keys
            (clip_step lk rk from to2 hl hr nl nr
            (queued s.left_waiting) (queued c.put_all.new.queue) (queued c.take_due.new.queue) c.in_ok-left_due.left_due.items
            (queued s.right_waiting) (queued c.put_starts.new.queue) (queued c.take_due-2.new.queue) c.in_ok-right_due.right_due.items
            low high wl wr fl fr c.in_ok-put_all.ensures.put put_r dl.parts dr.parts
            (dl.below tl) (dr.below tr) (dl.rest tl) (dr.rest tr) (dl.order tl) (dr.order tr)
            s.rows.left.rows later.left.rows out c.new-answer.result.items c.sweep.new.answer.items k.kept c.new-answer.ensures.items
            (λ da db h. c.in_ok-sweep.ensures.swept (of (hl ++ nl)) (of (hr ++ nr)) from to2
            (subst (IsDue (of (hl ++ nl)) from to2) (sym c.as_slice.ensures.value) da) (subst (IsDue (map unending (of (hr ++ nr))) from to2) (sym c.as_slice-2.ensures.value) db) h));
      };
      tells = clip_news lk rk from to2 hl hr nl nr
          (queued s.left_waiting) (queued c.put_all.new.queue) (queued c.take_due.new.queue) c.in_ok-left_due.left_due.items
          (queued s.right_waiting) (queued c.put_starts.new.queue) (queued c.take_due-2.new.queue) c.in_ok-right_due.right_due.items
          low high wl wr fl fr c.in_ok-put_all.ensures.put put_r dl.parts dr.parts
          (dl.below tl) (dr.below tr) (dl.rest tl) (dr.rest tr) (dl.order tl) (dr.order tr)
          s.rows.left.rows later.left.rows out c.new-answer.result.items c.sweep.new.answer.items k.kept c.new-answer.ensures.items
          (λ da db h. c.in_ok-sweep.ensures.swept (of (hl ++ nl)) (of (hr ++ nr)) from to2
          (subst (IsDue (of (hl ++ nl)) from to2) (sym c.as_slice.ensures.value) da) (subst (IsDue (map unending (of (hr ++ nr))) from to2) (sym c.as_slice-2.ensures.value) db) h);
    }

pub returns-clause-fits : goal.returns-clause-fits
returns-clause-fits c = λ a.
    let s = c.args.self.now in
    let from = c.args._from in
    let low = c.requires.rises in
    let later = c.sweep.new.self in
    let dl = c.in_ok-left_due.ensures in
    let dr = c.in_ok-right_due.ensures in
    let tl = c.in_ok-put_all.ensures.timed a.left.timed in
    let tr = c.in_ok-put_starts.ensures.timed a.right.timed in
    record {
      left = side_stepped (cells_of c.args.left.now) from c.args.to s.rows.left.rows later.left.rows s.left_waiting c.put_all.new.queue c.take_due.new.queue c.args.left.now.edges c.in_ok-left_due.left_due.items
          low a.left c.put_all.ensures.order.real c.in_ok-put_all.ensures.cells c.in_ok-put_all.ensures.put dl.parts (dl.below tl) (dl.rest tl) (dl.timed tl)
          (λ w. let f = c.in_ok-sweep.ensures.rows w in let e = ap (λ l. total w (started_rows l)) c.as_slice.ensures.value in omega (arith, f, e));
      right = starts_stepped (cells_of c.args.right.now) from c.args.to [] [] s.right_waiting c.put_starts.new.queue c.take_due-2.new.queue c.args.right.now.edges c.in_ok-right_due.right_due.items
          low a.right c.put_starts.ensures.order.real c.in_ok-put_starts.ensures.cells c.in_ok-put_starts.ensures.put dr.parts (dr.below tr) (dr.rest tr) (dr.timed tr) (λ w. (omega arith));
      right_starts = starts_stay s.right_waiting c.put_starts.new.queue c.take_due-2.new.queue c.args.right.now.edges c.in_ok-right_due.right_due.items c.put_starts.ensures.order.real a.right_starts c.in_ok-put_starts.ensures.put dr.parts;
    }
