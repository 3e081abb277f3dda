use Rattle.std.proofs.Common.{◌≡◌, ◌++◌, take}
use Rattle.edge_stream.specs.Listing.{SameShape}
use Rattle.ingress.specs.Ranks.{TakesBatches, SamePools}
use Rattle.ingress.proofs.by_rank.append_all.Given as goal

abbrev pub invariant-loop-edge : goal.invariant-loop-edge
invariant-loop-edge l = record {
  edges : l.list.edges ≡ l.fn.list.edges ++ take l.edge-index l.edges;
  shape : SameShape l.fn.list l.list;
  taken : TakesBatches l.fn.list l.fn.pools l.list l.pools;
  pools : SamePools l.fn.pools l.pools;
}
