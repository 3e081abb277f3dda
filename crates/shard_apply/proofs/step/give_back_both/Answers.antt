use Rattle.std.proofs.Common.{◌∙◌, ap}
use Rattle.edge_stream.specs.Listing.{cells_of}
use Rattle.edge_stream.proofs.Filling.{batches_given-capacity}
use Rattle.edge_stream.proofs.Pools.{batches_given-limit}
use Rattle.shard_apply.proofs.step.give_back_both.Goals as goal

pub give_back-requires-2 : goal.give_back-requires-2
give_back-requires-2 c =
    ap (λ s. s.capacity) c.give_back.ensures ∙ batches_given-capacity c.args.left.batches c.args.pools.now (cells_of c.args.left) ∙ c.requires.right

pub returns-clause-capacity : goal.returns-clause-capacity
returns-clause-capacity c =
    ap (λ s. s.capacity) c.give_back-2.ensures ∙ batches_given-capacity c.args.right.batches c.give_back.new.pools (cells_of c.args.right)
    ∙ ap (λ s. s.capacity) c.give_back.ensures ∙ batches_given-capacity c.args.left.batches c.args.pools.now (cells_of c.args.left)

pub returns-clause-limit : goal.returns-clause-limit
returns-clause-limit c =
    ap (λ s. s.limit) c.give_back-2.ensures ∙ batches_given-limit c.args.right.batches c.give_back.new.pools (cells_of c.args.right)
    ∙ ap (λ s. s.limit) c.give_back.ensures ∙ batches_given-limit c.args.left.batches c.args.pools.now (cells_of c.args.left)
