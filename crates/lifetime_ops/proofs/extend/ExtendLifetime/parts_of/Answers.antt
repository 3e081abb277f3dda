use Rattle.std.proofs.Common.{◌∙◌, sym, subst}
use Rattle.edge_stream.specs.Listing.{cells_of}
use Rattle.edge_stream.specs.Entries.{IsEdgePart}
use Rattle.lifetime_ops.proofs.extend.ExtendLifetime.parts_of.Goals as goal

pub returns-clause-waiting : goal.returns-clause-waiting
returns-clause-waiting c =
    let kinds = cells_of c.args.self.now.carried in
    let sound = c.is_state.ensures.0 c.if-not-is_state.false in
    c.in_ok-ends.ensures.waiting kinds c.args.left_to (subst (IsEdgePart kinds c.args.left_to) (sym (c.deref.ensures.value ∙ c.in_ok-edges.ensures)) sound.waiting)
