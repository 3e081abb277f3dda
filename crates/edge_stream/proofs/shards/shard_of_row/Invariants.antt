-- The key columns before this one are in the hash.
use Rattle.std.proofs.Common.{◌≡◌, take}
use Rattle.edge_stream.specs.Shards.{key_cells, hash_of_key}
use Rattle.edge_stream.proofs.shards.shard_of_row.Given as goal

abbrev pub invariant-loop-column : goal.invariant-loop-column
invariant-loop-column l = l.hash ≡ hash_of_key (key_cells (take l.column-index l.key) l.cells)
