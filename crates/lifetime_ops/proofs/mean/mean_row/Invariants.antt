-- The columns before this one are there.
use Rattle.std.proofs.Common.{◌≡◌, take}
use Rattle.plan_laws.specs.Keeping.{plain_cells}
use Rattle.plan_model.specs.Means.{mean_row as row_of_means}
use Rattle.lifetime_ops.proofs.mean.mean_row.Given as goal

abbrev pub invariant-loop-column : goal.invariant-loop-column
invariant-loop-column l = l.data.items ≡ take l.column (row_of_means plain_cells l.at l.cells)
