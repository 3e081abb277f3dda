use Rattle.std.specs.Prelude.{◌++◌}
use Rattle.edge_history.specs.Order.{is_real}
use Rattle.edge_history.specs.History.{of}
use Rattle.edge_history.proofs.Sums.{failing-parts}
use Rattle.edge_history.proofs.Parts.{history_first}
use Rattle.edge_history.proofs.Retaining.{events_of_are, same_below}
use Rattle.edge_history.proofs.history_laws.later_edges_leave_what_is_known.Goals as goal

pub returns-clause-balance : goal.returns-clause-balance
returns-clause-balance c = same_below

pub returns-clause-plain : goal.returns-clause-plain
returns-clause-plain c = λ t h new high k from.
    same_below t h new (of h) (of (h ++ new)) high (failing-parts is_real h new k.real).1 from
    (events_of_are h (history_first h new k)) (events_of_are (h ++ new) k)
