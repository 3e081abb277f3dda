-- The rows before this one have their moves.
use Rattle.std.specs.Prelude.{◌≡◌, ◌++◌, take}
use Rattle.synopsis.specs.Counted.{each_moves}
use Rattle.synopsis.proofs.few_moves.push_each.Given as goal

abbrev pub invariant-loop-cells : goal.invariant-loop-cells
invariant-loop-cells l = l.moves.items ≡ l.fn.moves.items ++ each_moves l.ends l.starts (take l.cells-index l.rows)
