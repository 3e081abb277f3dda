use Rattle.std.proofs.Common.{◌<◌, ◌*◌, ◌^◌, length, arith}
use Rattle.row_reader.proofs.Whole.{digit_fits, one_digit_more}
use Rattle.row_reader.proofs.OnePass.{digit_more, below_few}
use Rattle.row_reader.proofs.number.leading_number.Goals as goal

pub overflow_mul-number : goal.overflow_mul-number
overflow_mul-number c =
    let fits = digit_fits c.loop-i.number 0 c.loop-i.i c.min-most.result c.loop-i.invariant.small c.loop-i-test.true (omega arith) (omega arith) in
    let low : c.loop-i.number * 10 < 2 ^ 64 = omega (arith, fits) in
    record { fits = low }

pub overflow_add-number : goal.overflow_add-number
overflow_add-number c =
    record { fits = digit_fits c.loop-i.number c.digit_of.result c.loop-i.i c.min-most.result c.loop-i.invariant.small c.loop-i-test.true (omega arith) c.digit_of.ensures.1 }

pub loop-i-preserved : goal.loop-i-preserved
loop-i-preserved c =
    let low : c.loop-i.i < length c.args.text.now = omega (arith, c.loop-i-test.true) in
    let more = digit_more c.args.text.now c.loop-i.i c.loop-i.number c.digit_of.result low c.loop-i.invariant.digits c.loop-i.invariant.value c.digit_of.ensures.0 c.digit_of.ensures.1 in
    record {
      digits = more.0;
      value = more.1;
      small = one_digit_more c.loop-i.number c.digit_of.result c.loop-i.i c.loop-i.invariant.small c.digit_of.ensures.1;
    }

pub returns-then-not-is_digit-clause-small : goal.returns-then-not-is_digit-clause-small
returns-then-not-is_digit-clause-small c = below_few c.loop-i.number c.loop-i.i c.loop-i.invariant.small (omega arith)

pub returns-clause-small : goal.returns-clause-small
returns-clause-small c = below_few _ _ c.loop-i.invariant.small (omega arith)
