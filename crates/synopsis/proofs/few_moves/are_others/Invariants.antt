-- The moves before this one are of other rows.
use Rattle.std.specs.Prelude.{◌≡◌, true, take, not}
use Rattle.std.specs.List.{list_all}
use Rattle.tw_rows.specs.SameCells.{same_cells}
use Rattle.synopsis.proofs.few_moves.are_others.Given as goal

abbrev pub invariant-loop-moved : goal.invariant-loop-moved
invariant-loop-moved l = list_all (λ m. not (same_cells l.one.cells m.cells)) (take l.moved-index l.moves) ≡ true
