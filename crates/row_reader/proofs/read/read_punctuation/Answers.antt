use Rattle.std.proofs.Common.{sym, ap, ◌∙◌}
use Rattle.tw_rows.specs.Cells.{with_row}
use Rattle.row_reader.specs.Entry.{Read}
use Rattle.row_reader.specs.Interned.{row_read}
use Rattle.row_reader.proofs.Steps.{bad_read, punctuation_read, punctuation_bad, punctuation_odd}
use Rattle.row_reader.proofs.read.read_punctuation.Goals as goal

pub returns-then-count-ne1 : goal.returns-then-count-ne1
returns-then-count-ne1 c = λ table all row l. bad_read table row _ _ (sym (punctuation_odd c.args.stream all _ l (λ e. c.if-count-ne1.true (c.count.ensures ∙ e))))

pub returns-in-Some : goal.returns-in-Some
returns-in-Some c = λ table all row l.
    let is = punctuation_read c.args.stream all _ _ c.in-Some.time l (sym c.count.ensures ∙ c.if-count-ne1.false) c.take_field.ensures.field (sym c.read_end.ensures ∙ c.in-Some.is) in
    record { entry = (sym is, tt); texts = ap (λ (r : Read). with_row table (row_read r)) is }

pub returns-in-None : goal.returns-in-None
returns-in-None c = λ table all row l. bad_read table row _ _ (sym (punctuation_bad c.args.stream all _ _ l (sym c.count.ensures ∙ c.if-count-ne1.false) c.take_field.ensures.field (sym c.read_end.ensures ∙ c.in-None.is)))
