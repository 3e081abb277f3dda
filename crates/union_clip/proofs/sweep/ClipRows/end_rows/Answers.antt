use Rattle.std.proofs.Common.{arith}
use Rattle.union_clip.proofs.KeyRules.{keys_stay, keys_then}
use Rattle.union_clip.proofs.Leaving.{leave_none, ends_then, ends_more}
use Rattle.union_clip.proofs.sweep.ClipRows.end_rows.Goals as goal

pub loop-edge-init : goal.loop-edge-init
loop-edge-init c = record {
  ended = λ clipped h. leave_none c.args.t c.args.self.now.left.rows c.args.answer.now.items;
  fewer = λ w. (omega arith);
  keys = keys_stay c.args.self.now;
}

pub loop-edge-preserved : goal.loop-edge-preserved
loop-edge-preserved c =
    let s = c.args.self.now in
    let now = c.loop-edge.self in
    let later = c.end_one.new.self in
    let k = c.loop-edge.invariant in
    let f = c.in_ok-end_one.ensures in
    let x = c.edge-item.result in
    let i = c.loop-edge.edge-index in
    let low = c.loop-edge-test.true in
    let is = c.edge-item.is in
    record {
      ended = λ clipped h.
          ends_more clipped c.args.t c.args.now.now i x low is s.left.rows now.left.rows c.args.answer.now.items c.loop-edge.answer.items h (k.ended clipped h) later.left.rows c.end_one.new.answer.items
          (f.ended clipped (ends_then clipped c.args.t c.args.now.now i x low is s.left.rows now.left.rows c.args.answer.now.items c.loop-edge.answer.items h (k.ended clipped h)));
      fewer = λ w. (let a = k.fewer w in let b = f.fewer w in omega (arith, a, b));
      keys = keys_then s now later k.keys f.keys;
    }
