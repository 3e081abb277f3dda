use Rattle.std.proofs.Common.{ℕ, List, Some, ap, ◌∙◌}
use Rattle.row_reader.specs.Fields.{left}
use Rattle.row_reader.proofs.Steps.{next_some, next_none}
use Rattle.row_reader.proofs.Whole.{IfNone-any}
use Rattle.row_reader.proofs.fields.Fields.next_field.Goals as goal

pub returns-in_ok-field-in-Record-clause-some : goal.returns-in_ok-field-in-Record-clause-some
returns-in_ok-field-in-Record-clause-some c =
    next_some _ _ c.in-Record.next _ (ap left c.in-Record.is) (ap (λ (f : List ℕ). Some f) c.as_bytes.ensures.value ∙ c.in_ok-field-in-Record.ensures.value)

pub returns-in_err-field-in-Record-clause-none : goal.returns-in_err-field-in-Record-clause-none
returns-in_err-field-in-Record-clause-none c =
    let none = next_none _ c.in-Record.next c.in_err-field-in-Record.ensures.value in
    IfNone-any _ c.from_residual-in_err-field-in-Record.result (ap left c.in-Record.is ∙ none, none)
