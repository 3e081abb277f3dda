use Rattle.std.proofs.Common.{◌≡◌, true, List, ap, subst, sym, ◌∙◌}
use Rattle.tw_rows.specs.declared.schema.ColumnDef.{ColumnDef}
use Rattle.std.specs.Prelude.{codes}
use Rattle.row_reader.specs.Number.{same_text}
use Rattle.row_reader.specs.Fields.{left}
use Rattle.row_reader.specs.Record.{field_of}
use Rattle.row_reader.specs.Entry.{of_stream}
use Rattle.row_reader.specs.Interned.{IsReadIn}
use Rattle.row_reader.proofs.TextFields.{texts_left}
use Rattle.row_reader.proofs.OnePass.{interval_texts}
use Rattle.row_reader.proofs.read.read_of_stream.Goals as goal

pub read_event-requires : goal.read_event-requires
read_event-requires c = texts_left _ _ c.requires c.take_field-word.ensures.left

pub returns-then-is_punct-clause-entry : goal.returns-then-is_punct-clause-entry
returns-then-is_punct-clause-entry c =
    let test : same_text (field_of (left c.args.fields) 0) (codes "punct") ≡ true = ap (λ w. same_text w (codes "punct")) (sym c.take_field-word.ensures.field) ∙ sym c.is_punct.ensures ∙ c.if-is_punct.true in
    rw test (c.read_punctuation.ensures c.args.texts.now _ _ c.take_field-word.ensures.left)

pub place_interval-requires : goal.place_interval-requires
place_interval-requires c = interval_texts _ _ _ _ _ _ c.in-Some.ensures.told c.requires

pub returns-in-Some-clause-entry : goal.returns-in-Some-clause-entry
returns-in-Some-clause-entry c =
    subst (λ (columns : List ColumnDef). IsReadIn c.args.texts.now c.place_interval.new.texts c.place_interval.new.row.items c.place_interval.result (of_stream c.args.number columns (left c.args.fields)))
    c.items.ensures (c.place_interval.ensures.entry _ _ c.in-Some.ensures.told c.in-Some.ensures.known)
