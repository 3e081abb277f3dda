use Rattle.std.proofs.Common.{arith, ◌∙◌, refl}
use Rattle.edge_history.specs.Opens.{started_of}
use Rattle.sweep_laws.proofs.Adding.{adds_none, rows_more}
use Rattle.anti_join.proofs.Passes.{begin_told, rows_told, same_begins}
use Rattle.anti_join.proofs.RowKeys.{keys_stay, keys_then, by_then}
use Rattle.anti_join.proofs.sweep.AntiRows.start_left.Goals as goal

pub loop-edge-init : goal.loop-edge-init
loop-edge-init c = record { started = λ w. (omega arith); told = λ by. adds_none c.args.answer.now.items; right = refl; times = refl; keys = keys_stay c.args.self.now }

pub loop-edge-preserved : goal.loop-edge-preserved
loop-edge-preserved c =
    let s = c.args.self.now in
    let now = c.loop-edge.self in
    let later = c.start_left_one.new.self in
    let k = c.loop-edge.invariant in
    let f = c.in_ok-start_left_one.ensures in
    let x = c.edge-item.result in
    let i = c.loop-edge.edge-index in
    let low = c.loop-edge-test.true in
    let is = c.edge-item.is in
    record {
      started = λ w.
          let b = k.started w in
          let e = f.started w in
          let m = rows_more started_of w c.args.now.now i x low is in
          omega (arith, e, m, b);
      told = λ by.
          rows_told (begin_told c.args.t s.left.key s.right) started_of c.args.now.now i x c.args.answer.now.items c.loop-edge.answer.items c.start_left_one.new.answer.items low is (k.told by)
          (same_begins c.args.t s.left.key now.left.key s.right now.right (started_of x) c.loop-edge.answer.items c.start_left_one.new.answer.items k.keys.left k.right (f.told (by_then s now k.keys by)));
      right = f.right ∙ k.right;
      times = f.times ∙ k.times;
      keys = keys_then s now later k.keys f.keys;
    }
