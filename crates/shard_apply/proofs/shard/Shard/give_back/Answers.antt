use Rattle.std.proofs.Common.{◌∙◌, ap}
use Rattle.edge_stream.specs.Listing.{cells_of}
use Rattle.edge_stream.proofs.Filling.{batches_given-capacity}
use Rattle.shard_apply.proofs.shard.Shard.give_back.Goals as goal

pub returns-clause-capacity : goal.returns-clause-capacity
returns-clause-capacity g c =
    ap (λ s. s.capacity) c.give_back.ensures ∙ batches_given-capacity c.args.list.batches c.args.self.now.pools (cells_of c.args.list)
