use Rattle.std.proofs.Common.{◌≡◌, true, ap, sym, ◌∙◌}
use Rattle.std.specs.Prelude.{codes}
use Rattle.row_reader.specs.Number.{same_text}
use Rattle.row_reader.specs.Fields.{left}
use Rattle.row_reader.specs.Record.{field_of}
use Rattle.row_reader.proofs.read.read_of_all.Goals as goal

pub returns-then-is_punct : goal.returns-then-is_punct
returns-then-is_punct c = λ table row.
    let test : same_text (field_of (left c.args.fields) 0) (codes "punct") ≡ true = ap (λ w. same_text w (codes "punct")) (sym c.take_field.ensures.field) ∙ sym c.is_punct.ensures ∙ c.if-is_punct.true in
    rw test (c.read_punctuation.ensures table _ row c.take_field.ensures.left)
