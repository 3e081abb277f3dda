use Rattle.std.proofs.Common.{arith, ◌∙◌, refl, sym, subst}
use Rattle.edge_history.specs.Opens.{ended_of}
use Rattle.synopsis.specs.Held.{KeyedRows}
use Rattle.sweep_laws.specs.Saving.{HaveBegun}
use Rattle.sweep_laws.proofs.Adding.{ends_held, rows_more}
use Rattle.anti_join.proofs.Changes.{none_goes, since_same}
use Rattle.anti_join.proofs.Passes.{starts_more}
use Rattle.anti_join.proofs.RowKeys.{keys_stay, keys_then, by_then, starts_by, sets_times}
use Rattle.anti_join.proofs.sweep.AntiRows.end_right.Goals as goal

pub loop-edge-init : goal.loop-edge-init
loop-edge-init c =
    let s = c.args.self.now in
    record {
      ended = λ fit w. (omega arith);
      fewer = λ w. (omega arith);
      told = λ by. none_goes s.left.key s.right.key c.args.t s.right.rows s.right.rows s.times.rows s.left.rows c.args.answer.now.items refl;
      times = λ by. record {
        since = λ k _. since_same s.left.key s.right.key c.args.t s.right.rows s.right.rows k _ refl;
        early = λ k low. low;
        few = λ k _. (omega arith);
      };
      begun = λ kinds to low left times. times;
      left = refl;
      keys = keys_stay s;
    }

pub loop-edge-preserved : goal.loop-edge-preserved
loop-edge-preserved c =
    let s = c.args.self.now in
    let now = c.loop-edge.self in
    let later = c.end_right_one.new.self in
    let k = c.loop-edge.invariant in
    let f = c.in_ok-end_right_one.ensures in
    let x = c.edge-item.result in
    let i = c.loop-edge.edge-index in
    let low = c.loop-edge-test.true in
    let is = c.edge-item.is in
    record {
      ended = λ fit w.
          let b = k.ended fit in
          let e = f.ended (ends_held c.args.now.now i x s.right.rows now.right.rows low is fit b) w in
          let m = rows_more ended_of w c.args.now.now i x low is in
          let bw = b w in
          omega (arith, e, m, bw);
      fewer = λ w. (let a = k.fewer w in let b = f.fewer w in omega (arith, a, b));
      told = λ by.
          starts_more s.left.key s.right.key c.args.t s.right.rows now.right.rows later.right.rows s.times.rows now.times.rows s.left.rows c.args.answer.now.items c.loop-edge.answer.items c.end_right_one.new.answer.items
          k.fewer f.fewer (k.told by) (starts_by c.args.t s now later c.loop-edge.answer.items c.end_right_one.new.answer.items k.keys k.left (f.told (by_then s now k.keys by)));
      times = λ by. sets_times c.args.t s now later k.keys k.left k.fewer f.fewer (k.times by) (f.times (by_then s now k.keys by));
      begun = λ kinds to low left times. f.begun kinds to low (subst (λ (x : KeyedRows). HaveBegun kinds to x.rows) (sym k.left) left) (k.begun kinds to low left times);
      left = f.left ∙ k.left;
      keys = keys_then s now later k.keys f.keys;
    }
