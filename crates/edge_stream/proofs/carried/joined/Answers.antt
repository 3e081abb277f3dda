use Rattle.std.proofs.Common.{◌∙◌, ap}
use Rattle.edge_stream.specs.Listing.{cells_of}
use Rattle.edge_stream.proofs.Filling.{batches_given-capacity}
use Rattle.edge_stream.proofs.Pools.{batches_given-limit}
use Rattle.edge_stream.proofs.carried.joined.Goals as goal

pub returns-clause-pools : goal.returns-clause-pools
returns-clause-pools c = ap (λ s. s.capacity) c.give_back.ensures ∙ batches_given-capacity c.args.later.batches c.copy_behind.new.pools (cells_of c.args.later) ∙ c.copy_behind.ensures.pools

pub returns-clause-limit : goal.returns-clause-limit
returns-clause-limit c = ap (λ s. s.limit) c.give_back.ensures ∙ batches_given-limit c.args.later.batches c.copy_behind.new.pools (cells_of c.args.later) ∙ c.copy_behind.ensures.limit
