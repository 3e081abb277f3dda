use Rattle.std.proofs.Common.{◌∙◌, sym, refl, arith, true, false}
use Rattle.edge_history.specs.Opens.{ended_rows, started_rows}
use Rattle.plan_model.specs.Keys.{paired_row}
use Rattle.sweep_laws.proofs.JoinTelling.{held_then, told_then}
use Rattle.temporal_join.specs.Joined.{join_meets}
use Rattle.temporal_join.proofs.Partners.{same_told}
use Rattle.temporal_join.proofs.sweep.JoinRows.pass.Goals as goal

pub returns : goal.returns
returns c =
    let s = c.args.self.now in
    let lk = s.left_key.items in
    let rk = s.right_key.items in
    let l1 = c.as_slice.ensures.value in
    let r1 = c.as_slice-2.ensures.value in
    let l2 = c.as_slice-3.ensures.value in
    let r2 = c.as_slice-4.ensures.value in
    let t = c.args.t in
    let nl = c.args.now_left.now in
    let nr = c.args.now_right.now in
    let left1 = c.end_rows.new.rows.rows in
    let left2 = c.start_rows.new.rows.rows in
    let right1 = c.end_rows-2.new.rows.rows in
    let right2 = c.start_rows-2.new.rows.rows in
    let a0 = c.args.answer.now.items in
    let a1 = c.end_rows.new.answer.items in
    let a2 = c.end_rows-2.new.answer.items in
    let a3 = c.start_rows.new.answer.items in
    let a4 = c.start_rows-2.new.answer.items in
    record {
      swept = λ a b by low la lb il ir h.
          let by_left = by.left ∙ sym l2 in
          let by_right = by.right ∙ sym r1 in
          let s1 = same_told lk rk _ _ false true t (started_rows nl) right1 a2 a3 l1 r1 (c.in_ok-start_rows.ensures.told (c.in_ok-end_rows-2.ensures.key ∙ by_right)) in
          let s2 = same_told lk rk _ _ true true t (started_rows nr) left2 a3 a4 l2 r2 (c.in_ok-start_rows-2.ensures.told (c.in_ok-start_rows.ensures.key ∙ (c.in_ok-end_rows.ensures.key ∙ by_left))) in (
            held_then (join_meets lk rk) (paired_row rk) a b t nl nr s.left.rows left1 left2 s.right.rows right1 right2 a0 a1 a2 a3 a4
                low la lb il ir h c.in_ok-end_rows.ensures.ended (λ fit. same_told lk rk _ _ false false t (ended_rows nl) s.right.rows a0 a1 l1 r1 (c.in_ok-end_rows.ensures.told by_right fit)) c.in_ok-end_rows-2.ensures.ended (λ fit. same_told lk rk _ _ true false t (ended_rows nr) left1 a1 a2 l2 r2 (c.in_ok-end_rows-2.ensures.told (c.in_ok-end_rows.ensures.key ∙ by_left) fit)) c.in_ok-start_rows.ensures.started s1 c.in_ok-start_rows-2.ensures.started s2,
            told_then (join_meets lk rk) (paired_row rk) a b t nl nr s.left.rows left1 left2 s.right.rows right1 right2 a0 a1 a2 a3 a4
                low la lb il ir h c.in_ok-end_rows.ensures.ended (λ fit. same_told lk rk _ _ false false t (ended_rows nl) s.right.rows a0 a1 l1 r1 (c.in_ok-end_rows.ensures.told by_right fit)) c.in_ok-end_rows-2.ensures.ended (λ fit. same_told lk rk _ _ true false t (ended_rows nr) left1 a1 a2 l2 r2 (c.in_ok-end_rows-2.ensures.told (c.in_ok-end_rows.ensures.key ∙ by_left) fit)) c.in_ok-start_rows.ensures.started s1 c.in_ok-start_rows-2.ensures.started s2,
          );
      left_rows = λ w. (let a = c.in_ok-end_rows.ensures.fewer w in let b = c.in_ok-start_rows.ensures.started w in omega (arith, a, b));
      right_rows = λ w. (let a = c.in_ok-end_rows-2.ensures.fewer w in let b = c.in_ok-start_rows-2.ensures.started w in omega (arith, a, b));
      keys = record {
        left_key = refl;
        right_key = refl;
        left = c.in_ok-start_rows.ensures.key ∙ c.in_ok-end_rows.ensures.key;
        right = c.in_ok-start_rows-2.ensures.key ∙ c.in_ok-end_rows-2.ensures.key;
      };
    }
