-- What the list has so far, and that what is still to come fits.
use Rattle.std.proofs.Common.{◌≡◌, length}
use Rattle.edge_history.specs.Order.{failing}
use Rattle.edge_stream.specs.Listing.{cells_of, SameShape}
use Rattle.ingress.specs.Fits.{is_fit}
use Rattle.ingress.specs.Ranks.{TakesBatches, SamePools}
use Rattle.ingress.proofs.Merged.{Merged}
use Rattle.ingress.proofs.waiting.Waiting.copy_below.Given as goal

abbrev pub invariant-edges : goal.invariant-edges
invariant-edges l = record {
  merged : Merged l.self-inside.queue.edges l.self-inside.others l.cursor.edges l.fn.t l.low l.list.edges;
  fit : failing (is_fit (cells_of l.fn.list)) l.cursor.edges ≡ 0;
  shape : SameShape l.fn.list l.list;
  taken : TakesBatches l.fn.list l.fn.pools l.list l.pools;
  pools : SamePools l.fn.pools l.pools;
}

abbrev pub decreases-edges : goal.decreases-edges
decreases-edges l = length l.cursor.edges
