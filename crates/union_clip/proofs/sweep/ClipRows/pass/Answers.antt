use Rattle.std.proofs.Common.{arith}
use Rattle.union_clip.proofs.KeyRules.{keys_then}
use Rattle.union_clip.proofs.Meeting.{held_then, told_then}
use Rattle.union_clip.proofs.sweep.ClipRows.pass.Goals as goal

pub returns : goal.returns
returns c =
    let s0 = c.args.self.now in
    let s1 = c.clip_rows.new.self in
    let s2 = c.end_rows.new.self in
    let s3 = c.start_rows.new.self in
    let f1 = c.in_ok-clip_rows.ensures in
    let f2 = c.in_ok-end_rows.ensures in
    let f3 = c.in_ok-start_rows.ensures in
    let a0 = c.args.answer.now.items in
    let a1 = c.clip_rows.new.answer.items in
    let a2 = c.end_rows.new.answer.items in
    let a3 = c.start_rows.new.answer.items in
    record {
      swept = λ a b low la il ir h. (
        held_then s0.left.key s0.right_key.columns c.args.t a b c.args.now_left.now c.args.now_right.now s0.left.rows s1.left.rows s2.left.rows s3.left.rows a0 a1 a2 a3 low la il ir h f1.left f2.ended f3.started f3.told,
        told_then s0.left.key s0.right_key.columns c.args.t a b c.args.now_left.now c.args.now_right.now s0.left.rows s1.left.rows s2.left.rows s3.left.rows a0 a1 a2 a3 low la il ir h f1.left f2.ended f3.started f3.told,
      );
      rows = λ w.
          let a = f1.left.rows w in
          let b = f2.fewer w in
          let d = f3.started w in
          omega (arith, a, b, d);
      keys = keys_then s0 s2 s3 (keys_then s0 s1 s2 f1.keys f2.keys) f3.keys;
    }
