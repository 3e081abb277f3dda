use Rattle.std.proofs.Common.{arith}
use Rattle.std.proofs.lemmas.Fmt.{length-decimal-le}
use Rattle.checkpoint.proofs.putting.put_decimal.Goals as goal

pub write_digits-requires : goal.write_digits-requires
write_digits-requires c = (omega (arith, length-decimal-le 20 c.args.number (omega arith) (omega arith) c.ranges.number.fits), c.requires.1)

pub returns-clause-from : goal.returns-clause-from
returns-clause-from c =
    let start = c.write_digits.ensures.start in (
      omega (arith, start, length-decimal-le 20 c.args.number (omega arith) (omega arith) c.ranges.number.fits),
      omega (arith, start),
    )
