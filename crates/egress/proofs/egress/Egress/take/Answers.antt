use Rattle.std.proofs.Common.{◌∙◌, ap}
use Rattle.edge_stream.specs.Listing.{cells_of}
use Rattle.edge_stream.proofs.Filling.{batches_given-capacity}
use Rattle.edge_stream.proofs.Pools.{batches_given-limit}
use Rattle.egress.proofs.egress.Egress.take.Goals as goal

-- whether it failed is no part of what it holds
pub returns-clause-holds : goal.returns-clause-holds
returns-clause-holds c = λ h a start o whole from low.
    let is = c.in_ok-take_edges.ensures.holds h a start (record { high = o.high; history = o.history; swept = o.swept; cells = o.cells; kept = o.kept }) whole from low in
    record { high = is.high; history = is.history; swept = is.swept; cells = is.cells; kept = is.kept }

pub returns-clause-capacity : goal.returns-clause-capacity
returns-clause-capacity c = ap (λ s. s.capacity) c.give_back.ensures ∙ batches_given-capacity c.args.edges.batches c.args.pools.now (cells_of c.args.edges)

pub returns-clause-limit : goal.returns-clause-limit
returns-clause-limit c = ap (λ s. s.limit) c.give_back.ensures ∙ batches_given-limit c.args.edges.batches c.args.pools.now (cells_of c.args.edges)
