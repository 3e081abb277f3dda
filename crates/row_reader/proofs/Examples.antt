-- Worked cases: fields without quotes, and decimals.
use Rattle.std.proofs.Common.{◌≡◌, [], ◌∷◌, Some, None, refl}
use Rattle.std.specs.Prelude.{codes, pos, negsuc}
use Rattle.std.specs.Fmt.{digits}
use Rattle.row_reader.specs.NumberTexts.{fraction}
use Rattle.row_reader.specs.Number.{units_of}
use Rattle.row_reader.specs.Fields.{commas}

pub three_parts : commas (codes "a,,b") ≡ codes "a" ∷ [] ∷ codes "b" ∷ []
unfolding commas
three_parts = refl

pub five_hundredths_less : units_of 2 (codes "-0.05") ≡ Some (negsuc 4)
unfolding units_of fraction digits
five_hundredths_less = refl

pub too_few_digits : units_of 2 (codes "-0.5") ≡ None
unfolding units_of fraction digits
too_few_digits = refl

pub no_zero_below_zero : units_of 2 (codes "-0.00") ≡ None
unfolding units_of fraction digits
no_zero_below_zero = refl

pub five : units_of 0 (codes "5") ≡ Some (pos 5)
unfolding units_of fraction digits
five = refl
