use Rattle.std.proofs.Common.{◌≡◌, map, take}
use Rattle.tw_rows.specs.Kinds.{cell_kind_of}
use Rattle.edge_stream.specs.Taking.{batches_taken}
use Rattle.sweep_sides.proofs.answer.list_of.Given as goal

abbrev pub invariant-loop-edge : goal.invariant-loop-edge
invariant-loop-edge l = record {
  so_far : l.list.edges ≡ take l.edge-index l.edges;
  kinds : l.list.kinds ≡ l.kinds;
  capacity : l.list.capacity ≡ l.capacity;
  taken : l.pools ≡ batches_taken l.list.batches l.fn.pools (map cell_kind_of l.kinds);
  pools : l.pools.capacity ≡ l.fn.pools.capacity;
  limit : l.pools.limit ≡ l.fn.pools.limit;
}
