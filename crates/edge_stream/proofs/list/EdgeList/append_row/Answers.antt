use Rattle.std.proofs.Common.{◌∙◌, ◌++◌, ◌∷◌, [], get_or, ap, sym, subst}
use Rattle.std.proofs.lemmas.Option.{slice_get-get_or}
use Rattle.batch.specs.Rows.{Row, edge_of}
use Rattle.batch.proofs.Keeping.{no_row}
use Rattle.edge_history.specs.Order.{KeepsOrder}
use Rattle.edge_stream.proofs.Filling.{with_room-edges}
use Rattle.edge_stream.proofs.Listings.{IsListing-other}
use Rattle.edge_stream.proofs.list.EdgeList.append_row.Goals as goal

pub invariant_of-self : goal.invariant_of-self
invariant_of-self c =
    let edges = ap (λ v. v.edges) (c.self.view_is ∙ c.in_ok-make_room.ensures.ok) ∙ with_room-edges c.args.self.now in
    let r : Row = get_or c.args.batch.now.rows c.args.i no_row in
    let found = slice_get-get_or c.args.batch.now.rows c.args.i no_row c.requires.place in
    IsListing-other _ _ _ c.self.invariant _ (subst KeepsOrder (sym (c.copy_last.ensures.edges r found ∙ ap (λ es. es ++ edge_of r ∷ []) edges)) (c.requires.order r found)) (c.copy_last.ensures.alike _ _ c.self.invariant.alike)
