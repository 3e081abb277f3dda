use Rattle.std.proofs.Common.{◌+◌, ◌∙◌, ap, sym}
use Rattle.edge_stream.specs.Listing.{cells_of}
use Rattle.edge_stream.specs.Taking.{batches_given}
use Rattle.edge_stream.proofs.Filling.{batches_taken-capacity, batches_given-capacity, batches_given-more}
use Rattle.edge_stream.proofs.list.EdgeList.merge.Goals as goal

pub give_back-requires : goal.give_back-requires
give_back-requires c = ap (λ s. s.capacity) c.in_ok-list.ensures.pools ∙ batches_taken-capacity c.in_ok-list.list.batches c.args.pools.now (cells_of c.args.a) ∙ c.requires.pools

pub give_back-requires-2 : goal.give_back-requires-2
give_back-requires-2 c =
    ap (λ s. s.capacity) c.give_back.ensures ∙ batches_given-capacity c.args.a.batches c.merged.new.pools (cells_of c.args.a)
    ∙ ap (λ s. s.capacity) c.in_ok-list.ensures.pools ∙ batches_taken-capacity c.in_ok-list.list.batches c.args.pools.now (cells_of c.args.a) ∙ c.requires.pools ∙ c.requires.capacity

pub returns-clause-pools : goal.returns-clause-pools
returns-clause-pools c =
    let kinds = cells_of c.args.a in
    c.give_back-2.ensures ∙ (λ i. batches_given c.args.b.batches (c.give_back.ensures i) (sym c.requires.kinds i))
    ∙ batches_given-more c.args.a.batches c.args.b.batches c.merged.new.pools kinds ∙ ap (λ s. batches_given (c.args.a.batches + c.args.b.batches) s kinds) c.in_ok-list.ensures.pools
