use Rattle.std.proofs.Common.{arith, ◌∙◌, refl}
use Rattle.anti_join.proofs.RowKeys.{keys_stay, keys_then, by_then, forgets_times, gone_more}
use Rattle.anti_join.proofs.sweep.AntiRows.forget.Goals as goal

pub loop-edge-init : goal.loop-edge-init
loop-edge-init c = record {
  times = λ by. record { same = λ k _. refl; less = λ k. (omega arith); fewer = λ k. (omega arith) };
  gone = λ by k none some. absurd (omega (arith, some));
  fewer = λ w. (omega arith);
  left = refl;
  right = refl;
  keys = keys_stay c.args.self.now;
}

pub loop-edge-preserved : goal.loop-edge-preserved
loop-edge-preserved c =
    let s = c.args.self.now in
    let now = c.loop-edge.self in
    let later = c.forget_one.new.self in
    let k = c.loop-edge.invariant in
    let f = c.in_ok-forget_one.ensures in
    let x = c.edge-item.result in
    let i = c.loop-edge.edge-index in
    record {
      times = λ by. forgets_times s now later k.keys k.left (k.times by) (f.times (by_then s now k.keys by));
      gone = λ by l none some.
          gone_more s now later l c.args.now.now i x c.loop-edge-test.true c.edge-item.is k.keys k.left none (k.gone by l none) (f.times (by_then s now k.keys by)) (f.gone (by_then s now k.keys by) l) some;
      fewer = λ w. (let a = k.fewer w in let b = f.fewer w in omega (arith, a, b));
      left = f.left ∙ k.left;
      right = f.right ∙ k.right;
      keys = keys_then s now later k.keys f.keys;
    }
