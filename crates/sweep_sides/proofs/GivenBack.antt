-- What pools keep when the lists of both sides are given back to them.
use Rattle.std.specs.Prelude.{◌≡◌}
use Rattle.std.proofs.Common.{◌∙◌, ap}
use Rattle.batch.specs.PoolsView.{PoolsView}
use Rattle.edge_stream.specs.Listing.{EdgeListView, cells_of}
use Rattle.edge_stream.specs.Taking.{batches_given}
use Rattle.edge_stream.proofs.Filling.{batches_given-capacity}
use Rattle.edge_stream.proofs.Pools.{batches_given-limit}

module _ (l r : EdgeListView) (p p1 p2 : PoolsView) (one : p1 ≡ batches_given l.batches p (cells_of l)) (two : p2 ≡ batches_given r.batches p1 (cells_of r)) where
  pub both_given-capacity : p2.capacity ≡ p.capacity
  both_given-capacity =
      ap (λ s. s.capacity) two ∙ batches_given-capacity r.batches p1 (cells_of r)
      ∙ ap (λ s. s.capacity) one ∙ batches_given-capacity l.batches p (cells_of l)

  pub both_given-limit : p2.limit ≡ p.limit
  both_given-limit =
      ap (λ s. s.limit) two ∙ batches_given-limit r.batches p1 (cells_of r)
      ∙ ap (λ s. s.limit) one ∙ batches_given-limit l.batches p (cells_of l)
