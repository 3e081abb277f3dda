-- The key columns before this one are in the hash.
use Rattle.std.proofs.Common.{◌≡◌, take}
use Rattle.std.specs.Prelude.{slice_get, Some}
use Rattle.batch.specs.Rows.{Row}
use Rattle.edge_stream.specs.Shards.{key_cells, hash_of_key}
use Rattle.edge_stream.proofs.shards.hash_at.Given as goal

abbrev pub invariant-loop-column : goal.invariant-loop-column
invariant-loop-column l = (r : Row) → slice_get l.batch.rows l.row ≡ Some r → l.hash ≡ hash_of_key (key_cells (take l.column-index l.key) r.cells)
