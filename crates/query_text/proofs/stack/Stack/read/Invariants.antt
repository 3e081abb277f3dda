use Rattle.std.proofs.Common.{◌≡◌, length}
use Rattle.query_text.specs.Machine.{after}
use Rattle.query_text.proofs.stack.Stack.read.Given as goal

abbrev pub invariant-symbols : goal.invariant-symbols
invariant-symbols l = after l.self l.kind ≡ after l.fn.self l.kind

abbrev pub decreases-symbols : goal.decreases-symbols
decreases-symbols l = length l.self
