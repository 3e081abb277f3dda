use Rattle.std.proofs.Common.{sym, arith}
use Rattle.row_reader.proofs.Numbers.{number_of-spelled, number_of-none}
use Rattle.row_reader.proofs.Whole.{above_limit}
use Rattle.row_reader.proofs.number.read_number.Goals as goal

pub returns-in_err-number : goal.returns-in_err-number
returns-in_err-number c = rw c.from_residual.ensures (sym (number_of-none c.args.limit c.args.bytes.now (λ n low e. c.in_err-number.ensures.none n (omega (arith, low)) e)))

pub returns-then-number-limit : goal.returns-then-number-limit
returns-then-number-limit c = sym (number_of-spelled c.args.limit c.in_ok-number.number c.args.bytes.now c.if-number-limit.true (omega arith) c.in_ok-number.ensures.some)

pub returns-else-number-limit : goal.returns-else-number-limit
returns-else-number-limit c = sym (above_limit c.args.bytes.now c.in_ok-number.number c.args.limit c.if-number-limit.false c.in_ok-number.ensures.small c.in_ok-number.ensures.some)
