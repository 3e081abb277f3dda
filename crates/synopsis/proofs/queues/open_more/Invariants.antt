-- The loop invariants and measures of queues::open_more.
use Rattle.std.proofs.Common.{◌≡◌, ◌++◌, replicate}
use Rattle.synopsis.proofs.queues.open_more.Given as goal

abbrev pub invariant-loop : goal.invariant-loop
invariant-loop l = l.since.items ≡ l.fn.since.items ++ replicate l.counter l.at
