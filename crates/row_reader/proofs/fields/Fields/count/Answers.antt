use Rattle.std.proofs.Common.{ℕ, ◌+◌, ap, sym, ◌∙◌, length}
use Rattle.row_reader.specs.Fields.{left}
use Rattle.row_reader.specs.declared.fields.Fields.TheVariants.{Plain}
use Rattle.row_reader.proofs.Commas.{length-commas}
use Rattle.row_reader.proofs.fields.Fields.count.Goals as goal

pub returns-in-Some : goal.returns-in-Some
returns-in-Some c = ap (λ (n : ℕ). 1 + n) (c.count_commas.ensures)
    ∙ sym (length-commas c.in-Some.text.now) ∙ sym (ap (λ f. length (left f)) (c.in-Plain.is ∙ ap (λ o. Plain o) c.in-Some.is))
