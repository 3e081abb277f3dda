use Rattle.std.proofs.Common.{◌∙◌, arith}
use Rattle.edge_history.specs.Opens.{started_of}
use Rattle.sweep_laws.proofs.Adding.{rows_more}
use Rattle.follow_op.proofs.Taken.{flat_next}
use Rattle.follow_op.proofs.rows.start_rows.Goals as goal

pub loop-edge-preserved : goal.loop-edge-preserved
loop-edge-preserved c =
    let k = c.loop-edge.invariant in
    let f = c.in_ok-start_one.ensures in
    let x = c.edge-item.result in
    let i = c.loop-edge.edge-index in
    record {
      rows = λ w. (let a = k.rows w in let b = f.rows w in let d = rows_more started_of w c.args.now.now i x c.loop-edge-test.true c.edge-item.is in omega (arith, a, b, d));
      queue = flat_next started_of c.args.now.now i x c.args.queue.now.items c.loop-edge.queue.items c.start_one.new.queue.items c.loop-edge-test.true c.edge-item.is k.queue f.queue;
      key = c.start_one.ensures.key ∙ k.key;
    }

pub returns-in_err-start_one-clause-key : goal.returns-in_err-start_one-clause-key
returns-in_err-start_one-clause-key c = c.start_one.ensures.key ∙ c.loop-edge.invariant.key
