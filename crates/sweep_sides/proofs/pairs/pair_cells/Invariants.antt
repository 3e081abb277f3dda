use Rattle.std.proofs.Common.{◌≡◌, ◌++◌, take}
use Rattle.plan_model.specs.Keys.{outside_key}
use Rattle.sweep_sides.proofs.pairs.pair_cells.Given as goal

abbrev pub invariant-loop-i : goal.invariant-loop-i
invariant-loop-i l = l.data.items ≡ l.left ++ outside_key l.right_key (take l.i l.right)
