use Rattle.edge_history.proofs.Parts.{split_at_time}
use Rattle.edge_history.proofs.Standing.{history_below, same_as_below}
use Rattle.edge_history.proofs.history_laws.edges_below_are_a_history.Goals as goal

pub returns-clause-first : goal.returns-clause-first
returns-clause-first c = λ t h k. split_at_time t 0 h k.order

pub returns-clause-history : goal.returns-clause-history
returns-clause-history c = history_below

pub returns-clause-known : goal.returns-clause-known
returns-clause-known c = same_as_below
