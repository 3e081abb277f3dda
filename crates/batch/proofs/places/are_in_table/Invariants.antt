-- The places before this one are those of texts, wherever a row is occupied.
use Rattle.std.proofs.Common.{◌≡◌, true, false, ℕ, ◌<◌, map, get_or, pos}
use Rattle.tw_rows.specs.declared.cells.Datum.TheVariants.{Int, Text}
use Rattle.tw_rows.specs.Cells.{IsPlaced}
use Rattle.batch.proofs.places.are_in_table.Given as goal

abbrev pub invariant-loop-i : goal.invariant-loop-i
invariant-loop-i l = (k : ℕ) → k < l.i → get_or l.occupied.items k false ≡ true → IsPlaced l.texts (get_or (map Text l.places.items) k (Int (pos 0)))
