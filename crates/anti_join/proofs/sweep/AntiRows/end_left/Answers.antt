use Rattle.std.proofs.Common.{arith, ◌∙◌, refl}
use Rattle.edge_history.specs.Opens.{ended_of}
use Rattle.sweep_laws.proofs.Adding.{adds_none, ends_held, rows_more}
use Rattle.anti_join.proofs.Passes.{end_told, rows_told, same_ends}
use Rattle.anti_join.proofs.RowKeys.{keys_stay, keys_then, by_then}
use Rattle.anti_join.proofs.sweep.AntiRows.end_left.Goals as goal

pub loop-edge-init : goal.loop-edge-init
loop-edge-init c = record { ended = λ fit w. (omega arith); fewer = λ w. (omega arith); told = λ by fit. adds_none c.args.answer.now.items; right = refl; times = refl; keys = keys_stay c.args.self.now }

pub loop-edge-preserved : goal.loop-edge-preserved
loop-edge-preserved c =
    let s = c.args.self.now in
    let now = c.loop-edge.self in
    let later = c.end_left_one.new.self in
    let k = c.loop-edge.invariant in
    let f = c.in_ok-end_left_one.ensures in
    let x = c.edge-item.result in
    let i = c.loop-edge.edge-index in
    let low = c.loop-edge-test.true in
    let is = c.edge-item.is in
    record {
      ended = λ fit w.
          let b = k.ended fit in
          let e = f.ended (ends_held c.args.now.now i x s.left.rows now.left.rows low is fit b) w in
          let m = rows_more ended_of w c.args.now.now i x low is in
          let bw = b w in
          omega (arith, e, m, bw);
      fewer = λ w. (let a = k.fewer w in let b = f.fewer w in omega (arith, a, b));
      told = λ by fit.
          rows_told (end_told c.args.t s.left.key s.right s.times) ended_of c.args.now.now i x c.args.answer.now.items c.loop-edge.answer.items c.end_left_one.new.answer.items low is (k.told by fit)
          (same_ends c.args.t s.left.key now.left.key s.right now.right s.times now.times (ended_of x) c.loop-edge.answer.items c.end_left_one.new.answer.items k.keys.left k.right k.times
          (f.told (by_then s now k.keys by) (ends_held c.args.now.now i x s.left.rows now.left.rows low is fit (k.ended fit))));
      right = f.right ∙ k.right;
      times = f.times ∙ k.times;
      keys = keys_then s now later k.keys f.keys;
    }
