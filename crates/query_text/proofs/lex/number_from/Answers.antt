use Rattle.std.proofs.Common.{arith}
use Rattle.query_text.proofs.Numbers.{past_greatest}
use Rattle.query_text.proofs.lex.number_from.Goals as goal

pub returns-then-next-from : goal.returns-then-next-from
returns-then-next-from c = past_greatest c.loop-digits.value 0 c.loop-digits.digits.now _ (omega arith) c.loop-digits.invariant.whole (omega arith)
