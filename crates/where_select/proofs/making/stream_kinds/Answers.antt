use Rattle.std.proofs.Common.{◌∙◌, [], ap, sym}
use Rattle.std.proofs.lemmas.List.{get_or-map}
use Rattle.tw_rows.specs.declared.schema.StreamDef.{StreamDef}
use Rattle.plan_model.specs.IsPlan.{kinds_of_schema}
use Rattle.where_select.proofs.Nodes.{kinds_are_stored}
use Rattle.where_select.proofs.making.stream_kinds.Goals as goal

pub returns : goal.returns
returns c =
    let found = c.index-streams-stream.result in
    let kinds = λ (d : StreamDef). kinds_of_schema d.schema in
    kinds_are_stored c.column_kinds.result (λ v. v.items) c.items.result.now _
    (ap kinds_of_schema c.items.ensures ∙ sym (get_or-map kinds c.args.streams.now c.args.stream found [] c.requires)) c.column_kinds.ensures
