-- The cells of the columns before this one are read.
use Rattle.std.proofs.Common.{◌≡◌, ◌≤◌, take}
use Rattle.batch.specs.Payloads.{cells_at}
use Rattle.batch.proofs.batch.Batch.edge_at.Given as goal

abbrev pub invariant-loop-column : goal.invariant-loop-column
invariant-loop-column l = record {
  read : l.data.items ≡ take l.column-index (cells_at l.self-inside.payload.items l.i);
  room : 4 ≤ l.data.capacity;
}
