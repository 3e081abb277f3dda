-- The loop invariants and measures of groups::push_cells.
use Rattle.std.proofs.Common.{◌≡◌, ◌+◌, ℕ, List, take}
use Rattle.tw_rows.specs.Bag.{total}
use Rattle.tw_rows.specs.declared.cells.Datum.{Datum}
use Rattle.edge_history.specs.Opens.{bare}
use Rattle.outer_top.proofs.groups.push_cells.Given as goal

abbrev pub invariant-loop-row : goal.invariant-loop-row
invariant-loop-row l = (w : List Datum → ℕ) → total w l.list.items ≡ total w l.initial.list.items + total w (bare (take l.row-index l.rows))
