-- What is written so far, and what is left to write, are all of it; and no room was given up.
use Rattle.std.proofs.Common.{◌≡◌, ◌≤◌, ◌++◌, length}
use Rattle.std.specs.Prelude.{vec_capacity}
use Rattle.checkpoint.specs.Lines.{cell_texts}
use Rattle.checkpoint.proofs.entry.push_cells.Given as goal

abbrev pub invariant-loop-rest : goal.invariant-loop-rest
invariant-loop-rest l =
    (l.out.items ++ cell_texts l.rest ≡ l.fn.out.items ++ cell_texts l.cells)
    × (vec_capacity l.fn.out ≤ vec_capacity l.out)

abbrev pub decreases-loop-rest : goal.decreases-loop-rest
decreases-loop-rest l = length l.rest
