use Rattle.std.proofs.Common.{◌∙◌, ◌++◌, ◌∷◌, [], ap, sym, subst}
use Rattle.tw_rows.specs.declared.edge.Edge.{Edge}
use Rattle.edge_history.specs.Order.{KeepsOrder}
use Rattle.edge_stream.proofs.Filling.{with_room-edges}
use Rattle.edge_stream.proofs.Listings.{IsListing-other}
use Rattle.edge_stream.proofs.list.EdgeList.append_cells.Goals as goal

pub invariant_of-self : goal.invariant_of-self
invariant_of-self c =
    let edge : Edge = record { sync = c.args.sync; other = c.args.other; cells = c.args.cells.now } in
    let edges = ap (λ v. v.edges) (c.self.view_is ∙ c.in_ok-make_room.ensures.ok) ∙ with_room-edges c.args.self.now in
    IsListing-other _ _ _ c.self.invariant _ (subst KeepsOrder (sym (c.push_last.ensures.edges ∙ ap (λ es. es ++ edge ∷ []) edges)) c.requires.order) (c.push_last.ensures.alike _ _ c.self.invariant.alike)
