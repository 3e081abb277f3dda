-- Entries were added for the rows behind those that are left.
use Rattle.std.proofs.Common.{length}
use Rattle.std.specs.List.{IsDistinct}
use Rattle.std.specs.Map.{keys_of}
use Rattle.tw_rows.specs.SameCells.{same_cells}
use Rattle.synopsis.specs.Kept.{since_at}
use Rattle.egress.proofs.SavedEnds.{RestSo, times_at}
use Rattle.egress.proofs.saving.save_rest.Given as goal

abbrev pub invariant-rows : goal.invariant-rows
invariant-rows l = record {
  so : RestSo l.fn.saved l.saved (since_at l.fn.starts) (times_at l.rows);
  apart : IsDistinct same_cells (keys_of l.rows);
}

abbrev pub decreases-rows : goal.decreases-rows
decreases-rows l = length l.rows
