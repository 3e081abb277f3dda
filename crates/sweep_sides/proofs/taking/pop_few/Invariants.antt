use Rattle.sweep_sides.proofs.TakenIn.{TakenOut}
use Rattle.sweep_sides.proofs.taking.pop_few.Given as goal

abbrev pub invariant-loop : goal.invariant-loop
invariant-loop l = TakenOut l.below l.fn.queue l.queue l.fn.due.items l.due.items
