-- The other batch has the occupied rows before this place, and the rest is still to come.
use Rattle.std.proofs.Common.{◌≡◌, ◌++◌, drop}
use Rattle.batch.specs.Rows.{occupied_rows}
use Rattle.batch.proofs.batch.Batch.copy_into.Given as goal

abbrev pub invariant-loop-i : goal.invariant-loop-i
invariant-loop-i l = record {
  told : l.to.rows ++ occupied_rows (drop l.i l.self.rows) ≡ l.fn.to.rows ++ occupied_rows l.self.rows;
  kinds : l.to.kinds ≡ l.fn.to.kinds;
  room : l.to.capacity ≡ l.fn.to.capacity;
}
