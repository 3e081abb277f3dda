use Rattle.edge_history.proofs.Standing.{stands_below_less, stands_less, told_less}
use Rattle.edge_history.proofs.standing_laws.standing_holds_below_earlier_times.Goals as goal

pub returns-clause-stands : goal.returns-clause-stands
returns-clause-stands c = stands_below_less

pub returns-clause-balance : goal.returns-clause-balance
returns-clause-balance c = stands_less

pub returns-clause-told : goal.returns-clause-told
returns-clause-told c = told_less
