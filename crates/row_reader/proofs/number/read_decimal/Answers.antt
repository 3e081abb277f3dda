use Rattle.std.proofs.Common.{arith, rules}
use Rattle.row_reader.proofs.Whole.{whole_some, whole_none, no_digits, one_zero, leading_zero}
use Rattle.row_reader.proofs.number.read_decimal.Goals as goal

pub returns-then-is_empty-clause-none : goal.returns-then-is_empty-clause-none
returns-then-is_empty-clause-none c = λ n low e. no_digits c.args.bytes.now n (search rules) low e

pub returns-then-bytes-eq1-clause-some : goal.returns-then-bytes-eq1-clause-some
returns-then-bytes-eq1-clause-some c = one_zero c.args.bytes.now (omega arith) (search rules)

pub returns-else-bytes-eq1-clause-none : goal.returns-else-bytes-eq1-clause-none
returns-else-bytes-eq1-clause-none c = λ n low e. leading_zero c.args.bytes.now n (search rules) (search rules) low e

pub returns-clause-some : goal.returns-clause-some
returns-clause-some c = whole_some c.number_of_digits.result c.args.bytes.now (search rules) (search rules) c.number_of_digits.ensures.digits c.number_of_digits.ensures.value c.number_of_digits.ensures.small

pub returns-clause-none : goal.returns-clause-none
returns-clause-none c = whole_none c.number_of_digits.result c.args.bytes.now c.number_of_digits.ensures.none
