use Rattle.std.proofs.Common.{arith}
use Rattle.row_reader.proofs.Whole.{IfNone-any, units_some, units_none, no_whole, no_point}
use Rattle.row_reader.proofs.number.read_units.Goals as goal

pub returns-in_err-whole-clause-none : goal.returns-in_err-whole-clause-none
returns-in_err-whole-clause-none c = IfNone-any _ c.from_residual.result (λ n low e. no_point c.args.bytes.now c.args.places n (omega arith) c.in_err-whole.ensures.none e)

pub returns-in_err-number-clause-none : goal.returns-in_err-number-clause-none
returns-in_err-number-clause-none c = IfNone-any _ c.from_residual-in_err-number.result (λ n low e. no_whole c.args.bytes.now _ _ c.args.places n (omega arith) c.in_ok-whole.ensures.some.0 c.in_ok-whole.ensures.some.1 c.in_err-number.ensures.none low e)

pub returns-clause-some : goal.returns-clause-some
returns-clause-some c = units_some c.read_digits.result c.args.bytes.now _ _ c.args.places c.in_ok-number.number (omega arith) c.in_ok-whole.ensures.some.0 c.in_ok-whole.ensures.some.1 c.in_ok-number.ensures.some c.read_digits.ensures.digits c.read_digits.ensures.value

pub returns-clause-none : goal.returns-clause-none
returns-clause-none c = units_none c.read_digits.result c.args.bytes.now _ _ c.args.places c.in_ok-number.number (omega arith) c.in_ok-whole.ensures.some.0 c.in_ok-whole.ensures.some.1 c.in_ok-number.ensures.some c.in_ok-number.ensures.small c.read_digits.ensures.none
