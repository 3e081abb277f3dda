-- The other batch has the occupied rows before this place whose bit is set, and the rest is still to come.
use Rattle.std.proofs.Common.{◌≡◌, ◌++◌, drop}
use Rattle.batch.specs.Rows.{occupied_rows, kept}
use Rattle.batch.proofs.batch.Batch.copy_kept.Given as goal

abbrev pub invariant-loop-i : goal.invariant-loop-i
invariant-loop-i l = record {
  told : l.to.rows ++ occupied_rows (drop l.i (kept l.self.rows l.mask.items)) ≡ l.fn.to.rows ++ occupied_rows (kept l.self.rows l.mask.items);
  kinds : l.to.kinds ≡ l.fn.to.kinds;
  room : l.to.capacity ≡ l.fn.to.capacity;
}
