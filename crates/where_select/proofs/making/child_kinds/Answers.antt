use Rattle.std.proofs.Common.{◌∙◌, [], ap}
use Rattle.std.proofs.lemmas.List.{get_or_default}
use Rattle.plan_model.specs.IsPlan.{kinds_of_schema}
use Rattle.where_select.proofs.Nodes.{kinds_are_stored}
use Rattle.where_select.proofs.making.child_kinds.Goals as goal

pub returns : goal.returns
returns c =
    let found = c.index-schemas-child.result in
    kinds_are_stored c.column_kinds.result (λ v. v.items) c.items.result.now _
    (ap kinds_of_schema (c.items.ensures ∙ c.index-schemas-child.is ∙ get_or_default c.args.schemas.now c.args.child found [] c.requires)) c.column_kinds.ensures
