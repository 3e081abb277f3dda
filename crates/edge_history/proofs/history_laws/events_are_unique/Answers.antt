use Rattle.edge_history.proofs.Retaining.{events_unique}
use Rattle.edge_history.proofs.history_laws.events_are_unique.Goals as goal

pub returns : goal.returns
returns c = events_unique
