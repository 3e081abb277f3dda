use Rattle.edge_history.proofs.Made.{events_of_with, stands_with}
use Rattle.edge_history.proofs.made_laws.replaced_edges_stand_for_replaced_events.Goals as goal

pub returns-clause-events : goal.returns-clause-events
returns-clause-events c = events_of_with

pub returns-clause-stands : goal.returns-clause-stands
returns-clause-stands c = stands_with
