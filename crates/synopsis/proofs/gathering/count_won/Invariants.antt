-- The loop invariants and measures of gathering::count_won.
use Rattle.std.specs.Prelude.{◌≡◌, ◌+◌, List, take}
use Rattle.tw_rows.specs.SameCells.{same_cells}
use Rattle.tw_rows.specs.declared.cells.Datum.{Datum}
use Rattle.key_nodes.specs.Coalesced.{how_often}
use Rattle.synopsis.specs.Counted.{ends_at, starts_at}
use Rattle.synopsis.proofs.gathering.count_won.Given as goal

abbrev pub invariant-loop-cells : goal.invariant-loop-cells
invariant-loop-cells l = ((c : List Datum) → ends_at l.counted c ≡ ends_at l.fn.counted c) × ((c : List Datum) → starts_at l.counted c ≡ starts_at l.fn.counted c + how_often same_cells c (take l.cells-index l.rows))
