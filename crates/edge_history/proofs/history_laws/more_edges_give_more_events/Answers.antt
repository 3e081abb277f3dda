use Rattle.std.specs.Prelude.{◌++◌}
use Rattle.edge_history.specs.History.{begun, end_all, of}
use Rattle.edge_history.proofs.Parts.{history_first}
use Rattle.edge_history.proofs.Retaining.{events_of_are, events_more, events_unique}
use Rattle.edge_history.proofs.history_laws.more_edges_give_more_events.Goals as goal

pub returns-clause-balance : goal.returns-clause-balance
returns-clause-balance c = λ h new a k are. events_more h new a k.real k.paired are

pub returns-clause-plain : goal.returns-clause-plain
returns-clause-plain c = λ h new k.
    events_unique (h ++ new) (of (h ++ new)) (end_all new (of h ++ begun new)) (events_of_are (h ++ new) k)
    (events_more h new (of h) k.real k.paired (events_of_are h (history_first h new k)))
