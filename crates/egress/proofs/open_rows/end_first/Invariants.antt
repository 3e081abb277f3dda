-- So many of the row's starts are ended, and their end lines are added.
use Rattle.std.proofs.Common.{◌≡◌, ◌++◌, map, take, drop}
use Rattle.tw_rows.specs.Cells.{read_cells}
use Rattle.plan_model.specs.Changes.{Ended}
use Rattle.egress.specs.Print.{print}
use Rattle.egress.proofs.open_rows.end_first.Given as goal

abbrev pub invariant-loop : goal.invariant-loop
invariant-loop l = (l.since.items ≡ drop l.counter l.fn.since.items)
    × (l.lines.items ≡ l.fn.lines.items ++ print l.kinds (map (λ s. Ended l.at s (read_cells l.texts l.cells)) (take l.counter l.fn.since.items)))
