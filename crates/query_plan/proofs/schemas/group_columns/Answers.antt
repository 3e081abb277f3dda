use Rattle.std.proofs.Common.{◌∙◌, ◌++◌, [], get_or, ap}
use Rattle.std.proofs.lemmas.List.{get_or_default}
use Rattle.query_plan.specs.Schemas.{column_at, agg_columns}
use Rattle.query_plan.proofs.Columns.{made_none, made_more, made_all}
use Rattle.query_plan.proofs.schemas.group_columns.Goals as goal

pub loop-column-init : goal.loop-column-init
loop-column-init c = made_none _ _ _ _ (cc)

pub loop-column-preserved : goal.loop-column-preserved
loop-column-preserved c = made_more (column_at c.args.schema.now) [] c.args.key.now c.loop-column.column-index (get_or c.args.key.now c.loop-column.column-index 0) c.in_ok-column_copy.field-0 _ _ c.loop-column.invariant c.loop-column-test.true (get_or_default c.args.key.now c.loop-column.column-index 0 _ c.loop-column-test.true) c.in_ok-column_copy.ensures c.in_ok-push.ensures.items

pub returns : goal.returns
returns c = c.in_ok-push_aggs.ensures ∙ ap (λ l. l ++ agg_columns c.args.schema.now c.args.aggs.now c.args.computed.now) (made_all (column_at c.args.schema.now) [] c.args.key.now c.loop-column.column-index _ c.loop-column.invariant c.loop-column-test.false)
