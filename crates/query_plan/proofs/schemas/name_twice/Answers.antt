use Rattle.std.proofs.Common.{◌+◌, ◌∙◌, ap, sym}
use Rattle.std.specs.List.{list_any}
use Rattle.std.proofs.lemmas.List.{take_rest}
use Rattle.query_plan.specs.Schemas.{has_twice, same_name}
use Rattle.query_plan.proofs.ColumnFits.{twice_here, twice_past, left_all}
use Rattle.query_plan.proofs.schemas.name_twice.Goals as goal

pub returns-then-has_name : goal.returns-then-has_name
returns-then-has_name c = twice_here same_name c.args.schema.now c.loop-i.i c.index-schema-i.result c.loop-i.invariant c.loop-i-test.true c.index-schema-i.is (ap (list_any (same_name c.index-schema-i.result)) (sym (take_rest c.args.schema.now (c.loop-i.i + 1))) ∙ sym c.if-has_name.ensures)

pub loop-i-preserved : goal.loop-i-preserved
loop-i-preserved c = twice_past same_name c.args.schema.now c.loop-i.i c.index-schema-i.result c.loop-i.invariant c.loop-i-test.true c.index-schema-i.is (ap (list_any (same_name c.index-schema-i.result)) (sym (take_rest c.args.schema.now (c.loop-i.i + 1))) ∙ sym c.if-has_name.ensures)

pub returns : goal.returns
returns c = left_all (has_twice same_name) c.args.schema.now c.loop-i.i c.loop-i.invariant c.loop-i-test.false
