use Rattle.edge_history.proofs.Made.{events_both, stands_both}
use Rattle.edge_history.proofs.made_laws.both_lists_stand_for_both.Goals as goal

pub returns-clause-events : goal.returns-clause-events
returns-clause-events c = events_both

pub returns-clause-stands : goal.returns-clause-stands
returns-clause-stands c = λ t h other merged a b k l order same. stands_both t h other merged a b order same k l
