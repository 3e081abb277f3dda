use Rattle.std.proofs.Common.{arith}
use Rattle.std.proofs.lemmas.Fmt.{length-decimal-le}
use Rattle.checkpoint.proofs.putting.put_int.Goals as goal

pub write_digits-from-requires : goal.write_digits-from-requires
write_digits-from-requires c = (omega (arith, length-decimal-le 19 c.unsigned_abs.result (omega arith) (omega arith) (omega arith)), c.requires.1)

pub put_byte-requires : goal.put_byte-requires
put_byte-requires c =
    let start = c.write_digits-from.ensures.start in (
      omega (arith, start, length-decimal-le 19 c.unsigned_abs.result (omega arith) (omega arith) (omega arith)),
      omega (arith, start),
    )

pub returns-then-number-lt0-clause-from : goal.returns-then-number-lt0-clause-from
returns-then-number-lt0-clause-from c =
    let start = c.write_digits-from.ensures.start in (
      omega (arith, start, c.put_byte.ensures.from, length-decimal-le 19 c.unsigned_abs.result (omega arith) (omega arith) (omega arith)),
      omega (arith, start, c.put_byte.ensures.from),
    )

pub returns-clause-from : goal.returns-clause-from
returns-clause-from c =
    let start = c.write_digits-from.ensures.start in (
      omega (arith, start, length-decimal-le 19 c.unsigned_abs.result (omega arith) (omega arith) (omega arith)),
      omega (arith, start),
    )
