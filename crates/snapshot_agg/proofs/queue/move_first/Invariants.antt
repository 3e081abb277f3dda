use Rattle.std.proofs.Common.{◌≡◌, ◌++◌, take, drop}
use Rattle.snapshot_agg.proofs.queue.move_first.Given as goal

abbrev pub invariant-loop : goal.invariant-loop
invariant-loop l = (l.line.items ≡ drop l.counter l.fn.line.items) × (l.due.items ≡ l.fn.due.items ++ take l.counter l.fn.line.items)
