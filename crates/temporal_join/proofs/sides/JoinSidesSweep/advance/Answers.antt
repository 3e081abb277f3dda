use Rattle.std.proofs.Common.{◌≡◌, ◌++◌, ap, arith}
use Rattle.edge_history.specs.History.{of}
use Rattle.edge_stream.specs.Listing.{cells_of}
use Rattle.plan_model.specs.Keys.{paired_row}
use Rattle.sweep_laws.proofs.Joins.{join_step}
use Rattle.sweep_sides.specs.Waiting.{queued}
use Rattle.sweep_sides.proofs.Telling.{from_lesser}
use Rattle.sweep_sides.proofs.TakenIn.{both, both_weighs, both_parted, side_taken}
use Rattle.temporal_join.specs.Joined.{join_meets}
use Rattle.temporal_join.specs.States.{left_rows, right_rows, left_pending, right_pending}
use Rattle.temporal_join.proofs.Stepping.{kept_by, join_news}
use Rattle.temporal_join.proofs.Steps.{keyed}
use Rattle.temporal_join.proofs.sides.JoinSidesSweep.advance.Goals as goal

pub returns-clause-kept : goal.returns-clause-kept
returns-clause-kept c = λ x y hl hr out closes k on.
    let s = c.args.self.now in
    let later = c.step.new.self in
    let from = c.args.from in
    let to = c.args.to in
    let low = c.requires.rises in
    let high = c.requires.low in
    let wl = on.left_history in
    let wr = on.right_history in
    let nl = c.args.left.now.edges in
    let nr = c.args.right.now.edges in
    let fl = from_lesser from x nl (omega (arith, closes)) on.left_from in
    let fr = from_lesser from y nr (omega (arith, closes)) on.right_from in
    let lk = s.rows.left_key.items in
    let rk = s.rows.right_key.items in
    let st = c.in_ok-step.ensures.stepped k.left_timed k.right_timed in
    let keys = c.in_ok-step.ensures.columns in
    let left_same : later.rows.left_key.items ≡ lk = ap (λ v. v.items) keys.left_key in
    let right_same : later.rows.right_key.items ≡ rk = ap (λ v. v.items) keys.right_key in
    let a0 = c.new-answer.result.items in
    let a1 = c.step.new.answer.items in record {
      kept = record {
        by = keyed s later keys k.by;
        left_timed = st.left.timed;
        right_timed = st.right.timed;
        kept = kept_by lk rk later.rows.left_key.items later.rows.right_key.items (left_rows later) (right_rows later) (queued (left_pending later)) (queued (right_pending later)) to
            (hl ++ nl) (hr ++ nr) (out ++ a1) left_same right_same
            (join_step (join_meets lk rk) (paired_row rk) from to hl hr nl nr
            (queued (left_pending s)) (both (left_pending s) nl) (queued (left_pending later)) st.left_due
            (queued (right_pending s)) (both (right_pending s) nr) (queued (right_pending later)) st.right_due
            low high wl wr fl fr (both_weighs (left_pending s) nl) (both_weighs (right_pending s) nr)
            (both_parted (left_pending s) (left_pending later) nl st.left_due st.left.parts) (both_parted (right_pending s) (right_pending later) nr st.right_due st.right.parts)
            st.left.below st.right.below st.left.rest st.right.rest st.left.order st.right.order
            (left_rows s) (left_rows later) (right_rows s) (right_rows later) out a0 a1 k.kept c.new-answer.ensures.items
            (λ da db h. st.swept (of (hl ++ nl)) (of (hr ++ nr)) k.by da db h));
      };
      tells = join_news (join_meets lk rk) (paired_row rk) from to hl hr nl nr
          (queued (left_pending s)) (both (left_pending s) nl) (queued (left_pending later)) st.left_due
          (queued (right_pending s)) (both (right_pending s) nr) (queued (right_pending later)) st.right_due
          low high wl wr fl fr (both_weighs (left_pending s) nl) (both_weighs (right_pending s) nr)
          (both_parted (left_pending s) (left_pending later) nl st.left_due st.left.parts) (both_parted (right_pending s) (right_pending later) nr st.right_due st.right.parts)
          st.left.below st.right.below st.left.rest st.right.rest st.left.order st.right.order
          (left_rows s) (left_rows later) (right_rows s) (right_rows later) out a0 a1 k.kept c.new-answer.ensures.items
          (λ da db h. st.swept (of (hl ++ nl)) (of (hr ++ nr)) k.by da db h);
    }

pub returns-clause-fits : goal.returns-clause-fits
returns-clause-fits c = λ a.
    let s = c.args.self.now in
    let later = c.step.new.self in
    let e = c.in_ok-step.ensures in
    let st = e.stepped a.left.timed a.right.timed in
    record {
      left = side_taken (cells_of c.args.left.now) c.args.from c.args.to (left_rows s) (left_rows later) (left_pending s) (left_pending later) c.args.left.now.edges st.left_due
          c.requires.rises a.left e.left_list.real e.left_cells st.left.parts st.left.below st.left.rest st.left.timed st.left.rows;
      right = side_taken (cells_of c.args.right.now) c.args.from c.args.to (right_rows s) (right_rows later) (right_pending s) (right_pending later) c.args.right.now.edges st.right_due
          c.requires.rises a.right e.right_list.real e.right_cells st.right.parts st.right.below st.right.rest st.right.timed st.right.rows;
    }
