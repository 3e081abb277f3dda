use Rattle.std.proofs.Common.{◌<◌, ◌∙◌, [], length, map, ap, arith}
use Rattle.std.proofs.lemmas.List.{get_or_default}
use Rattle.plan_model.specs.IsPlan.{kinds_of_schema, kinds_at}
use Rattle.tw_rows.specs.Kinds.{cell_kind_of}
use Rattle.where_select.proofs.Nodes.{stored_kinds}
use Rattle.dataflow.proofs.Starting.{told_narrow}
use Rattle.dataflow.proofs.making.kinds_told.Goals as goal

pub bounds-schemas-node : goal.bounds-schemas-node
bounds-schemas-node c =
    let low = c.requires in
    let each = c.schemas-schemas.ensures.kept.nodes_are.one_each in
    let same = ap length c.schemas-schemas.ensures.schemas in
    omega (arith, low, each, same)

pub returns : goal.returns
returns c =
    let schemas = c.schemas-schemas.result.now in
    let found = c.index-schemas-node.result in
    let low = c.requires in
    let each = c.schemas-schemas.ensures.kept.nodes_are.one_each in
    let same = ap length c.schemas-schemas.ensures.schemas in
    let there : c.args.node < length schemas = omega (arith, low, each, same) in
    let told = ap (map cell_kind_of) c.in_ok-kinds.ensures ∙ stored_kinds c.items.result.now ∙ ap kinds_of_schema (c.items.ensures ∙ c.index-schemas-node.is ∙ get_or_default schemas c.args.node found [] there) ∙ ap (λ l. kinds_at l c.args.node) c.schemas-schemas.ensures.schemas in
    record {
      kinds = told;
      width = told_narrow c.args.plan.now c.schemas-schemas.ensures.kept c.args.node c.requires c.in_ok-kinds.kinds.items told;
    }
