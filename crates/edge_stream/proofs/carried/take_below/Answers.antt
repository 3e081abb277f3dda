use Rattle.std.proofs.Common.{◌∙◌, ◌+◌, ◌-◌, ap}
use Rattle.edge_stream.specs.Listing.{cells_of}
use Rattle.edge_stream.proofs.Filling.{batches_taken-capacity}
use Rattle.edge_stream.proofs.Pools.{part-capacity, part-limit, batches_taken-limit}
use Rattle.edge_stream.proofs.carried.take_below.Goals as goal

pub returns-clause-pools : goal.returns-clause-pools
returns-clause-pools c =
    ap (λ s. s.capacity) c.in_ok-due.ensures.pools
    ∙ batches_taken-capacity (c.in_ok-due.due.batches + c.split_below.new.self.batches - c.in_ok-carried.field-0.batches) c.with_new.new.pools (cells_of c.in_ok-carried.field-0)
    ∙ c.in_ok-carried.ensures.pools

pub returns-in_err-due-clause-pools : goal.returns-in_err-due-clause-pools
returns-in_err-due-clause-pools c =
    part-capacity c.with_new.new.pools c.split_below.new.pools (cells_of c.in_ok-carried.field-0) c.in_err-due.ensures.err_pools ∙ c.in_ok-carried.ensures.pools

pub returns-clause-limit : goal.returns-clause-limit
returns-clause-limit c =
    ap (λ s. s.limit) c.in_ok-due.ensures.pools
    ∙ batches_taken-limit (c.in_ok-due.due.batches + c.split_below.new.self.batches - c.in_ok-carried.field-0.batches) c.with_new.new.pools (cells_of c.in_ok-carried.field-0)
    ∙ c.in_ok-carried.ensures.limit

pub returns-in_err-due-clause-limit : goal.returns-in_err-due-clause-limit
returns-in_err-due-clause-limit c =
    part-limit c.with_new.new.pools c.split_below.new.pools (cells_of c.in_ok-carried.field-0) c.in_err-due.ensures.err_pools ∙ c.in_ok-carried.ensures.limit
