use Rattle.std.proofs.Common.{arith}
use Rattle.row_reader.proofs.Whole.{IfNone-any, too_great, no_more}
use Rattle.row_reader.proofs.number.read_digits.Goals as goal

pub returns-in_err-checked_mul-clause-none : goal.returns-in_err-checked_mul-clause-none
returns-in_err-checked_mul-clause-none c = IfNone-any _ c.from_residual.result (λ all low.
    let more = too_great c.args.bytes.now c.loop-byte.byte-index c.loop-byte.number _ c.digit_of-digit.result c.loop-byte-test.true c.digit_of-digit.ensures.0 c.loop-byte.invariant.value in
    c.in_err-checked_mul.ensures (omega (arith, more, low)))

pub returns-in_err-number-clause-none : goal.returns-in_err-number-clause-none
returns-in_err-number-clause-none c = IfNone-any _ c.from_residual-in_err-number.result (λ all low.
    let more = too_great c.args.bytes.now c.loop-byte.byte-index c.loop-byte.number _ c.digit_of-digit.result c.loop-byte-test.true c.digit_of-digit.ensures.0 c.loop-byte.invariant.value in
    c.in_err-number.ensures (omega (arith, more, low, c.in_ok-checked_mul.ensures.1)))

pub returns-then-not-is_digit-clause-none : goal.returns-then-not-is_digit-clause-none
returns-then-not-is_digit-clause-none c = λ all low. no_more c.args.bytes.now c.loop-byte.byte-index c.loop-byte-test.true (c.loop-byte.invariant.rest all) (c.is_digit.ensures.other c.if-not-is_digit.true)
