use Rattle.std.proofs.Common.{◌≡◌, length}
use Rattle.query_text.specs.Machine.{all_may_end}
use Rattle.query_text.proofs.stack.Stack.ends.Given as goal

abbrev pub invariant-symbols : goal.invariant-symbols
invariant-symbols l = all_may_end l.self ≡ all_may_end l.fn.self

abbrev pub decreases-symbols : goal.decreases-symbols
decreases-symbols l = length l.self
