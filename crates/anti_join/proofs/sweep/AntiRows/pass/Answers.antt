use Rattle.std.proofs.Common.{◌∙◌, ap, sym, subst, arith}
use Rattle.tw_rows.specs.Bag.{total}
use Rattle.synopsis.specs.Held.{KeyedRows}
use Rattle.sweep_laws.specs.Saving.{HaveBegun}
use Rattle.sweep_laws.proofs.Stored.{begun_fewer}
use Rattle.anti_join.specs.Free.{KeyTimes}
use Rattle.anti_join.proofs.RowKeys.{keys_then, by_then}
use Rattle.anti_join.proofs.WholePass.{whole_pass}
use Rattle.anti_join.proofs.sweep.AntiRows.pass.Goals as goal

pub returns : goal.returns
returns c =
    let s0 = c.args.self.now in
    let s1 = c.end_left.new.self in
    let s2 = c.start_right.new.self in
    let s3 = c.end_right.new.self in
    let s4 = c.start_left.new.self in
    let s5 = c.forget.new.self in
    let f1 = c.in_ok-end_left.ensures in
    let f2 = c.in_ok-start_right.ensures in
    let f3 = c.in_ok-end_right.ensures in
    let f4 = c.in_ok-start_left.ensures in
    let f5 = c.in_ok-forget.ensures in
    let k1 = f1.keys in
    let k2 = keys_then s0 s1 s2 k1 f2.keys in
    let k3 = keys_then s0 s2 s3 k2 f3.keys in
    let k4 = keys_then s0 s3 s4 k3 f4.keys in
    let k5 = keys_then s0 s4 s5 k4 f5.keys in
    record {
      swept = λ a b by.
          whole_pass s0 s1 s2 s3 s4 s5 c.args.t c.args.now_left.now c.args.now_right.now c.args.answer.now.items c.end_left.new.answer.items c.start_right.new.answer.items c.end_right.new.answer.items c.start_left.new.answer.items
          k1 k2 k3 k4 f1.right f1.times f2.left f2.times f3.left f4.right f4.times f5.left f5.right
          f1.ended (f1.told by) f2.started (f2.told (by_then s0 s1 k1 by)) f3.ended (f3.told (by_then s0 s2 k2 by)) (f3.times (by_then s0 s2 k2 by))
          f4.started (f4.told (by_then s0 s3 k3 by)) (f5.times (by_then s0 s4 k4 by)) (f5.gone (by_then s0 s4 k4 by)) a b;
      left_rows = λ w.
          let a = f1.fewer w in
          let b = ap (λ (x : KeyedRows). total w x.rows) (f3.left ∙ f2.left) in
          let d = f4.started w in
          let e = ap (λ (x : KeyedRows). total w x.rows) f5.left in
          omega (arith, a, b, d, e);
      right_rows = λ w.
          let a = ap (λ (x : KeyedRows). total w x.rows) f1.right in
          let b = f2.started w in
          let d = f3.fewer w in
          let e = ap (λ (x : KeyedRows). total w x.rows) (f5.right ∙ f4.right) in
          omega (arith, a, b, d, e);
      begun = λ kinds to low left times.
          let l1 = begun_fewer kinds to s0.left.rows s1.left.rows f1.fewer left in
          let l2 = subst (λ (x : KeyedRows). HaveBegun kinds to x.rows) (sym f2.left) l1 in
          let t2 = subst (λ (x : KeyTimes). HaveBegun kinds to x.rows) (sym (f2.times ∙ f1.times)) times in
          let t4 = subst (λ (x : KeyTimes). HaveBegun kinds to x.rows) (sym f4.times) (f3.begun kinds to low l2 t2) in
          begun_fewer kinds to s4.times.rows s5.times.rows f5.fewer t4;
      keys = k5;
    }
