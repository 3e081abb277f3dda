use Rattle.std.proofs.Common.{◌≡◌, ◌∙◌, ◌+◌, ◌-◌, ◌++◌, map, length, ap, sym, subst, arith, append-nil}
use Rattle.std.proofs.lemmas.List.{length_push}
use Rattle.tw_rows.specs.Kinds.{cell_kind_of}
use Rattle.batch.specs.Rows.{edges_of}
use Rattle.batch.specs.PoolsView.{IsPartTaken}
use Rattle.batch.proofs.PoolLaws.{always}
use Rattle.edge_history.specs.Order.{KeepsOrder}
use Rattle.edge_stream.specs.Listing.{edges_in, last_room}
use Rattle.edge_stream.proofs.Cutting.{edges_in-push}
use Rattle.edge_stream.proofs.Filling.{part_whole}
use Rattle.edge_stream.proofs.LastBatch.{last_room-push}
use Rattle.edge_stream.proofs.Listings.{IsListing-pushed, list_is}
use Rattle.edge_stream.proofs.list.EdgeList.open_batch.Goals as goal

pub invariant_of-self-2 : goal.invariant_of-self-2
invariant_of-self-2 c =
    let bs = c.self.inside.batches.items in
    let made = c.in_ok-batch.ensures.ok in
    let none : edges_in bs ++ edges_of c.in_ok-batch.batch.rows ≡ edges_in bs = ap (λ t. edges_in bs ++ edges_of t.rows) made ∙ append-nil (edges_in bs) in
    IsListing-pushed _ _ _ c.self.invariant _ c.in_ok-batch.batch _ c.push_back.ensures.items (subst KeepsOrder (sym none) c.self.invariant.order)
    (ap (λ t. t.kinds) made ∙ ap (map cell_kind_of) c.deref.ensures.value)
    (ap (λ t. t.capacity) made ∙ c.requires ∙ sym (ap (λ v. v.capacity) c.self.view_is))

pub returns-in_err-push_back-clause-err_pools : goal.returns-in_err-push_back-clause-err_pools
returns-in_err-push_back-clause-err_pools c =
    let kinds = ap (map cell_kind_of) (c.deref.ensures.value ∙ ap (λ v. v.kinds) c.self.view_is) in
    always c.from_residual-in_err-push_back.result _
    (subst (IsPartTaken c.args.pools.now c.new.new.pools) kinds
    (subst (λ s. IsPartTaken c.args.pools.now s (map cell_kind_of c.deref.result.now)) (sym c.in_ok-batch.ensures.taken) (part_whole c.args.pools.now (map cell_kind_of c.deref.result.now))))

pub returns-clause-ok : goal.returns-clause-ok
returns-clause-ok c =
    let bs = c.self.inside.batches.items in
    let l = c.args.self.now in
    let b = c.in_ok-batch.batch in
    let is = c.self.view_is in
    let made = c.in_ok-batch.ensures.ok in
    let pushed = c.in_ok-push_back.ensures.items in
    let all : c.args.pools.now.capacity - 0 ≡ l.capacity = omega (arith, c.requires) in
    list_is _ _ _ _ _ (record l { batches = l.batches + 1; room = l.capacity })
    (ap edges_in pushed ∙ edges_in-push bs b ∙ ap (λ t. edges_in bs ++ edges_of t.rows) made ∙ append-nil (edges_in bs) ∙ ap (λ v. v.edges) is)
    (ap (λ v. v.kinds) is)
    (ap (λ v. v.capacity) is)
    (ap length pushed ∙ length_push bs b ∙ ap (λ v. v.batches + 1) is)
    (ap last_room pushed ∙ last_room-push bs b ∙ ap (λ t. t.capacity - length t.rows) made ∙ all)
