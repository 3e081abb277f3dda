use Rattle.std.proofs.Common.{◌∙◌, ap, Some}
use Rattle.query_plan.specs.Names.{column_of}
use Rattle.query_plan.proofs.SoFar.{so_far_none, so_far_more, so_far_stop, so_far_all}
use Rattle.query_plan.proofs.names.key_of.Goals as goal

pub loop-name-init : goal.loop-name-init
loop-name-init c = so_far_none _ _ _ (cc)

pub returns-in-None : goal.returns-in-None
returns-in-None c = so_far_stop (column_of c.args.schema.now) c.args.names.now c.loop-name.name-index c.name-item.result c.column_of.result _ c.loop-name.invariant c.loop-name-test.true c.name-item.is (c.column_of.ensures ∙ ap (column_of c.args.schema.now) c.as_str.ensures) c.in-None.is

pub loop-name-preserved : goal.loop-name-preserved
loop-name-preserved c = so_far_more (column_of c.args.schema.now) c.args.names.now c.loop-name.name-index c.name-item.result c.in-Some.column c.column_of.result _ _ c.loop-name.invariant c.loop-name-test.true c.name-item.is (c.column_of.ensures ∙ ap (column_of c.args.schema.now) c.as_str.ensures) c.in-Some.is c.in_ok-push-in-Some.ensures.items

pub returns : goal.returns
returns c = ap Some c.from_vec.ensures ∙ so_far_all (column_of c.args.schema.now) c.args.names.now c.loop-name.name-index _ c.loop-name.invariant c.loop-name-test.false
