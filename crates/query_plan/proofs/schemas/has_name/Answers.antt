use Rattle.std.specs.List.{list_any}
use Rattle.query_plan.specs.Schemas.{same_name}
use Rattle.query_plan.proofs.ColumnFits.{any_here, any_past, left_all}
use Rattle.query_plan.proofs.schemas.has_name.Goals as goal

pub returns-then-eq : goal.returns-then-eq
returns-then-eq c = any_here (same_name c.args.column.now) c.args.others.now c.loop-other.other-index c.other-item.result c.loop-other.invariant c.loop-other-test.true c.other-item.is (cc)

pub loop-other-preserved : goal.loop-other-preserved
loop-other-preserved c = any_past (same_name c.args.column.now) c.args.others.now c.loop-other.other-index c.other-item.result c.loop-other.invariant c.loop-other-test.true c.other-item.is (cc)

pub returns : goal.returns
returns c = left_all (list_any (same_name c.args.column.now)) c.args.others.now c.loop-other.other-index c.loop-other.invariant c.loop-other-test.false
