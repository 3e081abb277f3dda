use Rattle.std.proofs.Common.{◌<◌, ◌^◌, ◌*◌, arith}
use Rattle.row_reader.proofs.Whole.{no_more, digit_fits}
use Rattle.row_reader.proofs.number.read_short.Goals as goal

pub returns-then-not-is_digit-clause-none : goal.returns-then-not-is_digit-clause-none
returns-then-not-is_digit-clause-none c = λ all low. no_more c.args.bytes.now c.loop-byte.byte-index c.loop-byte-test.true (c.loop-byte.invariant.rest all) (c.is_digit.ensures.other c.if-not-is_digit.true)

pub overflow_mul-number : goal.overflow_mul-number
overflow_mul-number c =
    let fits = digit_fits c.loop-byte.number 0 c.loop-byte.byte-index _ c.loop-byte.invariant.small c.loop-byte-test.true c.requires (omega arith) in
    let low : c.loop-byte.number * 10 < 2 ^ 64 = omega (arith, fits) in
    record { fits = low }

pub overflow_add-number : goal.overflow_add-number
overflow_add-number c =
    record { fits = digit_fits c.loop-byte.number c.digit_of.result c.loop-byte.byte-index _ c.loop-byte.invariant.small c.loop-byte-test.true c.requires c.digit_of.ensures.1 }
