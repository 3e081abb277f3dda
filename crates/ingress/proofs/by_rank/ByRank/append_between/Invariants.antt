use Rattle.std.proofs.Common.{◌≡◌, ◌++◌}
use Rattle.std.specs.Prelude.{filter}
use Rattle.edge_history.specs.Order.{failing}
use Rattle.edge_stream.specs.Listing.{cells_of, SameShape}
use Rattle.ingress.specs.Fits.{is_fit}
use Rattle.ingress.specs.Ranks.{TakesBatches, SamePools, edges_at, is_between}
use Rattle.ingress.proofs.by_rank.ByRank.append_between.Given as goal

abbrev pub invariant-loop-edges : goal.invariant-loop-edges
invariant-loop-edges l = record {
  edges : l.list.edges ++ edges_at l.edges-iterator ≡ l.fn.list.edges ++ filter (is_between l.fn.from l.fn.to) l.self;
  fit : failing (is_fit (cells_of l.fn.list)) (edges_at l.edges-iterator) ≡ 0;
  shape : SameShape l.fn.list l.list;
  taken : TakesBatches l.fn.list l.fn.pools l.list l.pools;
  pools : SamePools l.fn.pools l.pools;
}
