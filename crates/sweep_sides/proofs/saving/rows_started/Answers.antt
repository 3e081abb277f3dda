use Rattle.std.proofs.Common.{◌∙◌}
use Rattle.sweep_sides.proofs.KeptSides.{row_more, all_rows}
use Rattle.sweep_sides.proofs.saving.rows_started.Goals as goal

pub loop-edge-preserved : goal.loop-edge-preserved
loop-edge-preserved c =
    let e = c.edge-item.result in
    record {
      key = c.in_ok-add.ensures.key ∙ c.loop-edge.invariant.key;
      rows = row_more c.args.edges.now c.loop-edge.edge-index e c.in_ok-clone.field-0 c.loop-edge.rows.rows c.add.new.self.rows c.loop-edge-test.true c.edge-item.is c.in_ok-clone.ensures.cases c.in_ok-add.ensures.ok c.loop-edge.invariant.rows;
    }

pub returns-clause-rows : goal.returns-clause-rows
returns-clause-rows c = all_rows c.args.edges.now c.loop-edge.rows.rows c.loop-edge.edge-index c.loop-edge-test.false c.loop-edge.invariant.rows
