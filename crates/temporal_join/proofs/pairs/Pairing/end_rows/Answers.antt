use Rattle.std.proofs.Common.{arith, false, ◌∙◌, refl}
use Rattle.edge_history.specs.Opens.{ended_of}
use Rattle.plan_model.specs.Keys.{paired_row}
use Rattle.sweep_laws.proofs.Adding.{adds_none, ends_held, rows_more}
use Rattle.sweep_laws.proofs.PairsTold.{rows_told_more}
use Rattle.temporal_join.specs.Joined.{join_meets}
use Rattle.temporal_join.proofs.pairs.Pairing.end_rows.Goals as goal

pub loop-edge-init : goal.loop-edge-init
loop-edge-init c = record { key = refl; ended = λ fit w. omega arith; fewer = λ w. omega arith; told = λ k fit. adds_none c.args.answer.now.items }

pub loop-edge-preserved : goal.loop-edge-preserved
loop-edge-preserved c =
    let x = c.edge-item.result in
    let i = c.loop-edge.edge-index in
    let low = c.loop-edge-test.true in
    let is = c.edge-item.is in
    let p = c.args.self.now in
    record {
      key = c.in_ok-end_one.ensures.key ∙ c.loop-edge.invariant.key;
      ended = λ fit w.
          let b = c.loop-edge.invariant.ended fit in
          let e = c.in_ok-end_one.ensures.ended (ends_held c.args.now.now i x c.args.rows.now.rows c.loop-edge.rows.rows low is fit b) w in
          let m = rows_more ended_of w c.args.now.now i x low is in
          let bw = b w in
          omega (arith, e, m, bw);
      fewer = λ w. (let a = c.in_ok-end_one.ensures.fewer w in let b = c.loop-edge.invariant.fewer w in omega (arith, a, b));
      told = λ k fit.
          rows_told_more (join_meets p.left_key.now p.right_key.now) (paired_row p.right_key.now) ended_of p.right false p.at x c.args.now.now c.args.others.now.rows i
          c.args.answer.now.items c.loop-edge.answer.items c.end_one.new.answer.items
          low is (c.in_ok-end_one.ensures.told k (ends_held c.args.now.now i x c.args.rows.now.rows c.loop-edge.rows.rows low is fit (c.loop-edge.invariant.ended fit))) (c.loop-edge.invariant.told k fit);
    }
