use Rattle.std.proofs.Common.{subst, sym}
use Rattle.edge_stream.specs.Listing.{IsListing}
use Rattle.edge_stream.proofs.Listings.{IsListing-drop}
use Rattle.edge_stream.proofs.list.EdgeList.take_batch.Goals as goal

pub invariant_of-self : goal.invariant_of-self
invariant_of-self c = subst (IsListing _ _) (sym c.pop_front.ensures.rest) (IsListing-drop _ _ _ c.self.invariant 1)
