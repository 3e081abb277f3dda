use Rattle.std.proofs.Common.{arith}
use Rattle.dataflow.proofs.Sure.{all_placed}
use Rattle.dataflow.proofs.steps.are_all_sure.Goals as goal

pub returns-clause-tested : goal.returns-clause-tested
returns-clause-tested c = λ thawed set. all_placed c.args.texts.now c.args.lists.now (λ k d low. c.loop-i.invariant k d (omega (arith, low, c.loop-i-test.false)) thawed)
