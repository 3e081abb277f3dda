use Rattle.edge_history.proofs.Retaining.{events_of_are}
use Rattle.edge_history.proofs.history_laws.histories_have_their_events.Goals as goal

pub returns : goal.returns
returns c = events_of_are
