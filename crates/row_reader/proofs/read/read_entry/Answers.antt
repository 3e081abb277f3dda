use Rattle.std.proofs.Common.{◌≡◌, true, ap, sym, ◌∙◌, subst}
use Rattle.std.specs.Prelude.{codes}
use Rattle.row_reader.specs.Number.{same_text}
use Rattle.row_reader.specs.Fields.{left}
use Rattle.row_reader.specs.Record.{field_of}
use Rattle.row_reader.specs.Entry.{record_entry, of_all}
use Rattle.row_reader.specs.Interned.{IsReadIn}
use Rattle.row_reader.proofs.TextFields.{texts_left}
use Rattle.row_reader.proofs.read.read_entry.Goals as goal

pub read_of_stream-requires : goal.read_of_stream-requires
read_of_stream-requires c = texts_left _ _ c.requires c.take_field-name.ensures.left

pub returns-then-is_star-clause-entry : goal.returns-then-is_star-clause-entry
unfolding record_entry
returns-then-is_star-clause-entry c =
    let test : same_text (field_of (left c.args.fields) 0) (codes "*") ≡ true = ap (λ w. same_text w (codes "*")) (sym c.take_field-name.ensures.field) ∙ sym c.is_star.ensures ∙ c.if-is_star.true in
    rw test (subst (λ l. IsReadIn c.args.texts.now c.args.texts.now c.args.row.now.items c.read_of_all.result (of_all l)) c.take_field-name.ensures.left (c.read_of_all.ensures c.args.texts.now c.args.row.now.items))
