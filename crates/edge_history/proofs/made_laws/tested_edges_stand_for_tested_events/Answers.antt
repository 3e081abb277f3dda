use Rattle.edge_history.proofs.Made.{events_of_where, stands_where}
use Rattle.edge_history.proofs.made_laws.tested_edges_stand_for_tested_events.Goals as goal

pub returns-clause-events : goal.returns-clause-events
returns-clause-events c = events_of_where

pub returns-clause-stands : goal.returns-clause-stands
returns-clause-stands c = stands_where
