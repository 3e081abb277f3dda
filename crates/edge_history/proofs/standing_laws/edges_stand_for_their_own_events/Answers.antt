use Rattle.edge_history.proofs.Standing.{stands_for_events}
use Rattle.edge_history.proofs.Made.{stands_in_any_order}
use Rattle.edge_history.proofs.standing_laws.edges_stand_for_their_own_events.Goals as goal

pub returns-clause-history : goal.returns-clause-history
returns-clause-history c = stands_for_events

pub returns-clause-any_order : goal.returns-clause-any_order
returns-clause-any_order c = stands_in_any_order
