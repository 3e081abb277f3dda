-- The cells from one on are put, and there is room for those before it.
use Rattle.std.proofs.Common.{◌≡◌, ◌*◌, ◌≤◌, ◌++◌, length, drop}
use Rattle.checkpoint.specs.Lines.{cell_texts}
use Rattle.checkpoint.proofs.putting.put_cells.Given as goal

abbrev pub invariant-loop-left : goal.invariant-loop-left
invariant-loop-left l =
    (21 * l.left ≤ l.from) × (l.from ≤ l.at) × (l.left ≤ length l.cells)
    × (drop l.from l.line ≡ cell_texts (drop l.left l.cells) ++ drop l.at l.fn.line)

abbrev pub decreases-loop-left : goal.decreases-loop-left
decreases-loop-left l = l.left
