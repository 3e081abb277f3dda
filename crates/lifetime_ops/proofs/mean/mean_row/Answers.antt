use Rattle.std.proofs.Common.{◌∙◌}
use Rattle.lifetime_ops.proofs.Means.{mean_next, mean_whole}
use Rattle.lifetime_ops.proofs.mean.mean_row.Goals as goal

pub loop-column-preserved : goal.loop-column-preserved
loop-column-preserved c =
    mean_next c.args.at.now c.args.cells.now c.in-Some.rest.now c.in-Some.count.now _ c.mean_in.result c.loop-column.column c.loop-column.data.items c.push.new.self.items
    c.in-Some.ensures.cases.0 c.loop-column-test.true c.mean_in.ensures c.loop-column.invariant c.in_ok-push.ensures.ok

pub returns : goal.returns
returns c =
    c.new-2.ensures
    ∙ mean_whole c.args.at.now c.args.cells.now c.in-Some.rest.now c.in-Some.count.now c.loop-column.column c.loop-column.data.items c.in-Some.ensures.cases.0 c.loop-column-test.false c.loop-column.invariant
