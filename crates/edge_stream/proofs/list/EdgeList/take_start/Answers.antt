use Rattle.edge_stream.proofs.Listings.{IsListing-other}
use Rattle.edge_stream.proofs.list.EdgeList.take_start.Goals as goal

pub invariant_of-self : goal.invariant_of-self
invariant_of-self c = IsListing-other _ _ _ c.self.invariant _ (c.take_start_of.ensures.order c.self.invariant.order) (c.take_start_of.ensures.alike _ _ c.self.invariant.alike)
