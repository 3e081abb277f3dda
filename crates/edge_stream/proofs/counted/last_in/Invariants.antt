-- The rows from this one on hold no edge.
use Rattle.std.proofs.Common.{◌≡◌, [], drop}
use Rattle.batch.specs.Rows.{edges_of}
use Rattle.edge_stream.proofs.counted.last_in.Given as goal

abbrev pub invariant-loop-i : goal.invariant-loop-i
invariant-loop-i l = edges_of (drop l.i l.batch.rows) ≡ []
