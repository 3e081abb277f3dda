use Rattle.std.proofs.Common.{◌++◌, ◌∙◌, take, ap, sym, subst}
use Rattle.batch.specs.Rows.{edges_of}
use Rattle.edge_history.specs.Order.{KeepsOrder}
use Rattle.edge_stream.proofs.Listings.{IsListing-other}
use Rattle.edge_stream.proofs.list.EdgeList.append_first.Goals as goal

pub invariant_of-self : goal.invariant_of-self
invariant_of-self c =
    let edges = ap (λ v. v.edges) c.self.view_is ∙ c.in_ok-make_room_for.ensures.edges in
    IsListing-other _ _ _ c.self.invariant _ (subst KeepsOrder (sym (c.extend_last.ensures.edges ∙ ap (λ es. es ++ edges_of (take c.args.rows c.args.batch.now.rows)) edges)) c.requires.order) (c.extend_last.ensures.alike _ _ c.self.invariant.alike)
