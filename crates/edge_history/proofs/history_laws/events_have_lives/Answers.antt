use Rattle.edge_history.specs.History.{of}
use Rattle.edge_history.proofs.Retaining.{events_of_are, valid_from, AreEvents-from}
use Rattle.edge_history.proofs.history_laws.events_have_lives.Goals as goal

pub returns-clause-plain : goal.returns-clause-plain
returns-clause-plain c = λ h k. AreEvents-from (of h) (valid_from h (of h) k.real (events_of_are h k))

pub returns-clause-balance : goal.returns-clause-balance
returns-clause-balance c = λ h a k are. AreEvents-from a (valid_from h a k.real are)
