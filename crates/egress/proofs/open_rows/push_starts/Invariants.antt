use Rattle.std.proofs.Common.{◌≡◌, ◌++◌, replicate}
use Rattle.tw_rows.specs.Cells.{read_cells}
use Rattle.plan_model.specs.Changes.{Started}
use Rattle.egress.specs.Print.{print}
use Rattle.egress.proofs.open_rows.push_starts.Given as goal

abbrev pub invariant-loop : goal.invariant-loop
invariant-loop l = l.lines.items ≡ l.fn.lines.items ++ print l.kinds (replicate l.counter (Started l.at (read_cells l.texts l.cells)))
