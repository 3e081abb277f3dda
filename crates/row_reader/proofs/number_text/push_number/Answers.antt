use Rattle.std.proofs.Common.{ℤ, arith}
use Rattle.std.specs.Prelude.{pos, negsuc}
use Rattle.std.proofs.lemmas.Int.{ints}
use mir.Val.{SFits}
use mir.Syntax.{w64}
use Rattle.row_reader.proofs.Plain.{IsSmall, field_text-plain, number_plain}
use Rattle.row_reader.proofs.number_text.push_number.Goals as goal

is_small : (z : ℤ) → SFits w64 z → IsSmall z
is_small (pos n) h = omega (arith, ints)
is_small (negsuc n) h = omega (arith, ints)

pub returns-clause-field : goal.returns-clause-field
returns-clause-field c = field_text-plain _ (number_plain c.args.places c.args.number (is_small c.args.number c.ranges.number))

pub returns-in_err-push-clause-field : goal.returns-in_err-push-clause-field
returns-in_err-push-clause-field c = field_text-plain _ (number_plain c.args.places c.args.number (is_small c.args.number c.ranges.number))
