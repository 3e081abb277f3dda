use Rattle.std.proofs.Common.{sym, subst}
use Rattle.edge_history.specs.Order.{KeepsOrder, is_from}
use Rattle.edge_stream.specs.Listing.{edges_in}
use Rattle.edge_stream.proofs.Listings.{IsListing-other}
use Rattle.edge_stream.proofs.ShardCuts.{KeepsOrder-filter}
use Rattle.edge_stream.proofs.list.EdgeList.drop_below.Goals as goal

pub invariant_of-self : goal.invariant_of-self
invariant_of-self c =
    IsListing-other _ _ _ c.self.invariant _ (subst KeepsOrder (sym c.remove_below.ensures.edges) (KeepsOrder-filter (is_from c.args.t) (edges_in c.self.inside.batches.items) c.self.invariant.order))
    (c.remove_below.ensures.alike _ _ c.self.invariant.alike)
