use Rattle.std.proofs.Common.{arith, ◌∙◌, refl}
use Rattle.edge_history.specs.Opens.{started_of}
use Rattle.sweep_laws.proofs.Adding.{rows_more}
use Rattle.anti_join.proofs.Changes.{none_comes}
use Rattle.anti_join.proofs.Passes.{ends_more}
use Rattle.anti_join.proofs.RowKeys.{keys_stay, keys_then, by_then, ends_by}
use Rattle.anti_join.proofs.sweep.AntiRows.start_right.Goals as goal

pub loop-edge-init : goal.loop-edge-init
loop-edge-init c =
    let s = c.args.self.now in
    record {
      started = λ w. (omega arith);
      told = λ by. none_comes s.left.key s.right.key c.args.t s.right.rows s.right.rows s.times.rows s.left.rows c.args.answer.now.items refl;
      left = refl;
      times = refl;
      keys = keys_stay s;
    }

pub loop-edge-preserved : goal.loop-edge-preserved
loop-edge-preserved c =
    let s = c.args.self.now in
    let now = c.loop-edge.self in
    let later = c.start_right_one.new.self in
    let k = c.loop-edge.invariant in
    let f = c.in_ok-start_right_one.ensures in
    let x = c.edge-item.result in
    let i = c.loop-edge.edge-index in
    record {
      started = λ w.
          let b = k.started w in
          let e = f.started w in
          let m = rows_more started_of w c.args.now.now i x c.loop-edge-test.true c.edge-item.is in
          omega (arith, e, m, b);
      told = λ by.
          ends_more s.left.key s.right.key c.args.t s.right.rows now.right.rows later.right.rows s.times.rows s.times.rows s.left.rows c.args.answer.now.items c.loop-edge.answer.items c.start_right_one.new.answer.items
          (λ w. (let b = k.started w in omega (arith, b))) (λ w. (let e = f.started w in omega (arith, e)))
          (k.told by) (ends_by c.args.t s now later c.loop-edge.answer.items c.start_right_one.new.answer.items k.keys k.left k.times (f.told (by_then s now k.keys by)));
      left = f.left ∙ k.left;
      times = f.times ∙ k.times;
      keys = keys_then s now later k.keys f.keys;
    }
