use Rattle.std.proofs.Common.{◌+◌, ◌-◌, ◌++◌, ◌∙◌, map, length, ap, sym, subst}
use Rattle.std.proofs.lemmas.List.{length_push}
use Rattle.tw_rows.specs.Kinds.{cell_kind_of}
use Rattle.batch.specs.Rows.{edges_of}
use Rattle.edge_history.specs.Order.{KeepsOrder}
use Rattle.edge_stream.specs.Listing.{edges_in, last_room}
use Rattle.edge_stream.proofs.Cutting.{edges_in-push}
use Rattle.edge_stream.proofs.LastBatch.{last_room-push}
use Rattle.edge_stream.proofs.Listings.{IsListing-pushed, list_is}
use Rattle.edge_stream.proofs.list.EdgeList.put_batch.Goals as goal

pub invariant_of-self-2 : goal.invariant_of-self-2
invariant_of-self-2 c =
    IsListing-pushed _ _ _ c.self.invariant _ c.args.batch _ c.push_back.ensures.items
    (subst (λ es. KeepsOrder (es ++ edges_of c.args.batch.rows)) (sym (ap (λ v. v.edges) c.self.view_is)) c.requires.order)
    (c.requires.kinds ∙ sym (ap (λ v. map cell_kind_of v.kinds) c.self.view_is)) (c.requires.capacity ∙ sym (ap (λ v. v.capacity) c.self.view_is))

pub returns-clause-ok : goal.returns-clause-ok
returns-clause-ok c =
    let bs = c.self.inside.batches.items in
    let is = c.self.view_is in
    let pushed = c.in_default.ensures.items in
    list_is _ _ _ _ _ _
    (ap edges_in pushed ∙ edges_in-push bs c.args.batch ∙ ap (λ v. v.edges ++ edges_of c.args.batch.rows) is)
    (ap (λ v. v.kinds) is)
    (ap (λ v. v.capacity) is)
    (ap length pushed ∙ length_push bs c.args.batch ∙ ap (λ v. v.batches + 1) is)
    (ap last_room pushed ∙ last_room-push bs c.args.batch ∙ ap (λ n. n - length c.args.batch.rows) c.requires.capacity)
