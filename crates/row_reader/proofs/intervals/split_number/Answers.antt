use Rattle.std.proofs.Common.{◌+◌, List, ℕ, ◌∷◌, ap, sym, ◌∙◌, arith}
use Rattle.std.specs.Prelude.{decimal}
use Rattle.row_reader.specs.Fields.{commas}
use Rattle.row_reader.proofs.OnePass.{number_last, number_before}
use Rattle.row_reader.proofs.Whole.{rest_all}
use Rattle.row_reader.proofs.intervals.split_number.Goals as goal

pub returns-then-digits-text-clause-field : goal.returns-then-digits-text-clause-field
returns-then-digits-text-clause-field c =
    let told = c.leading_number-digits.ensures in
    number_last c.args.text.now c.leading_number-digits.result.0 c.leading_number-digits.result.1 (record {
      within = told.within;
      some = c.are_spelled.ensures.some c.if-not-are_spelled.false;
      first = c.are_spelled.ensures.first c.if-not-are_spelled.false;
      digits = told.digits;
      value = told.value;
      small = told.small;
    }) c.if-digits-text.true

pub returns-clause-field : goal.returns-clause-field
returns-clause-field c =
    let told = c.leading_number-digits.ensures in
    let text = c.args.text.now in
    let digits = c.leading_number-digits.result.0 in
    let number = c.leading_number-digits.result.1 in
    number_before text digits number (record {
      within = told.within;
      some = c.are_spelled.ensures.some c.if-not-are_spelled.false;
      first = c.are_spelled.ensures.first c.if-not-are_spelled.false;
      digits = told.digits;
      value = told.value;
      small = told.small;
    }) (omega (arith, told.within, c.if-digits-text.false)) c.if-text-digits-ne44.false
    ∙ ap (λ (l : List ℕ). decimal number ∷ commas l) (sym (rest_all text (digits + 1)))
