use Rattle.std.proofs.Common.{◌∙◌, ◌+◌, ap}
use Rattle.edge_stream.specs.Listing.{cells_of}
use Rattle.edge_stream.specs.Taking.{batches_taken}
use Rattle.edge_stream.proofs.Filling.{batches_given-capacity, batches_taken-capacity}
use Rattle.edge_stream.proofs.Pools.{some-capacity, some-limit, batches_given-limit, batches_taken-limit}
use Rattle.edge_stream.proofs.carried.in_order.Goals as goal

pub returns-then-is_none-clause-pools : goal.returns-then-is_none-clause-pools
returns-then-is_none-clause-pools c = ap (λ s. s.capacity) c.give_back.ensures ∙ batches_given-capacity c.args.carried.batches c.args.pools.now (cells_of c.args.carried)

pub returns-clause-pools : goal.returns-clause-pools
returns-clause-pools c = ap (λ s. s.capacity) c.in_ok-all.ensures.pools
    ∙ batches_given-capacity (c.args.carried.batches + c.args.new.batches) (batches_taken c.in_ok-all.all.batches c.args.pools.now (cells_of c.args.carried)) (cells_of c.args.carried)
    ∙ batches_taken-capacity c.in_ok-all.all.batches c.args.pools.now (cells_of c.args.carried)

pub returns-in_err-all-clause-pools : goal.returns-in_err-all-clause-pools
returns-in_err-all-clause-pools c = some-capacity c.args.pools.now c.merge.new.pools (cells_of c.args.carried) c.in_err-all.ensures.err_pools

pub returns-then-is_none-clause-limit : goal.returns-then-is_none-clause-limit
returns-then-is_none-clause-limit c = ap (λ s. s.limit) c.give_back.ensures ∙ batches_given-limit c.args.carried.batches c.args.pools.now (cells_of c.args.carried)

pub returns-clause-limit : goal.returns-clause-limit
returns-clause-limit c = ap (λ s. s.limit) c.in_ok-all.ensures.pools
    ∙ batches_given-limit (c.args.carried.batches + c.args.new.batches) (batches_taken c.in_ok-all.all.batches c.args.pools.now (cells_of c.args.carried)) (cells_of c.args.carried)
    ∙ batches_taken-limit c.in_ok-all.all.batches c.args.pools.now (cells_of c.args.carried)

pub returns-in_err-all-clause-limit : goal.returns-in_err-all-clause-limit
returns-in_err-all-clause-limit c = some-limit c.args.pools.now c.merge.new.pools (cells_of c.args.carried) c.in_err-all.ensures.err_pools
