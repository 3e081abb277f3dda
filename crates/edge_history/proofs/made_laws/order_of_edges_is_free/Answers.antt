use Rattle.edge_history.specs.History.{of}
use Rattle.edge_history.proofs.Retaining.{events_of_are, events_unique}
use Rattle.edge_history.proofs.Made.{events_same, stands_below_same_edges}
use Rattle.edge_history.proofs.made_laws.order_of_edges_is_free.Goals as goal

pub returns-clause-balance : goal.returns-clause-balance
returns-clause-balance c = events_same

pub returns-clause-plain : goal.returns-clause-plain
returns-clause-plain c = λ h other k l same.
    events_unique other (of h) (of other) (events_same h other (of h) same (events_of_are h k)) (events_of_are other l)

pub returns-clause-stands : goal.returns-clause-stands
returns-clause-stands c = stands_below_same_edges
