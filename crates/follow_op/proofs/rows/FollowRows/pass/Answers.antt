use Rattle.std.specs.Prelude.{cond, ℕ, Bool, true, false, ◌+◌, ◌≤◌}
use Rattle.std.proofs.Common.{◌∙◌, ap, arith}
use Rattle.tw_rows.specs.Bag.{total}
use Rattle.tw_rows.specs.declared.edge.HeldRow.{HeldRow}
use Rattle.key_nodes.proofs.Bags.{total_le}
use Rattle.follow_op.specs.Followed.{match_told, is_met, is_followed}
use Rattle.follow_op.specs.Waits.{is_free}
use Rattle.follow_op.proofs.Passing.{held_over, held_then, told_then}
use Rattle.follow_op.proofs.rows.FollowRows.pass.Goals as goal

pub returns-clause-swept : goal.returns-clause-swept
returns-clause-swept c = λ a b v lv low pos la lb il ir h.
    let s = c.args.self.now in
    let lk = s.left.key in
    let rk = s.right_key.columns in
    let within = s.within in
    let t = c.args.t in
    let left = c.args.now_left.now in
    let right = c.args.now_right.now in
    let l0 = c.drop_over.new.left.rows in
    let q0 = c.drop_over.new.queue.items in
    let f0 = c.drop_over.ensures in
    let f1 = c.in_ok-tell_matches.ensures in
    let f2 = c.in_ok-drop_matched.ensures in
    let f3 = c.in_ok-start_rows.ensures in
    let q = f0.queue h.order in
    let over = held_over lk rk within a b v t t s.left.rows l0 s.queue.items q0 lv h q.1 (f0.rows (is_free lk rk b t) h.queued) q.0 in (
      held_then lk rk within t low pos a b l0 q0 over left right il ir c.drop_matched.new.left.rows c.start_rows.new.left.rows c.start_rows.new.queue.items
          (λ w.
          f2.rows w
          ∙ (ap (λ key. total (λ r. cond (is_followed key c.tell_matches.new.room.columns right r) 0 (w r)) l0) f0.key
          ∙ ap (λ key. total (λ r. cond (is_followed lk key right r) 0 (w r)) l0) f1.columns))
          f3.rows f3.queue,
      told_then lk rk within t low pos a b l0 q0 over left right il ir c.args.answer.now.items c.tell_matches.new.answer.items
          (λ w.
          f1.told w
          ∙ ap (λ key. total w c.args.answer.now.items + total (λ x. total (λ r. cond (is_met key rk x r) (w (match_told rk within t x.cells r)) 0) l0) right) f0.key)
          f1.order,
    )

pub returns-clause-rows : goal.returns-clause-rows
returns-clause-rows c = λ w.
    let f0 = c.drop_over.ensures.fewer w in
    let f2 = c.in_ok-drop_matched.ensures.rows w in
    let f3 = c.in_ok-start_rows.ensures.rows w in
    let p : HeldRow → Bool = is_followed c.drop_over.new.left.key c.tell_matches.new.room.columns c.args.now_right.now in
    let less = total_le (λ r. cond (p r) 0 (w r)) w c.drop_over.new.left.rows (λ r. one (p r) (w r)) in
    omega (arith, f0, f2, f3, less)
  where
    one : (b : Bool) (n : ℕ) → cond {A = ℕ} b 0 n ≤ n
    one true n = omega arith
    one false n = omega arith
