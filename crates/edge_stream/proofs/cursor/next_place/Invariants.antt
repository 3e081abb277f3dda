-- The same edges are still to come.
use Rattle.std.proofs.Common.{◌≡◌, ◌-◌, drop, length}
use Rattle.edge_stream.specs.Reading.{edges_from}
use Rattle.edge_stream.proofs.cursor.next_place.Given as goal

abbrev pub invariant-loop-place : goal.invariant-loop-place
invariant-loop-place l = edges_from l.row (drop l.place l.batches.items) ≡ edges_from l.fn.from_row (drop l.fn.from_place l.batches.items)

abbrev pub decreases-loop-place : goal.decreases-loop-place
decreases-loop-place l = length l.batches.items - l.place
