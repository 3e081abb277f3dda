use Rattle.edge_history.proofs.Standing.{stands_plain, cut_from_stands, stands_from_cut, told_stands}
use Rattle.edge_history.proofs.standing_laws.forms_of_standing_agree.Goals as goal

pub returns-clause-plain : goal.returns-clause-plain
returns-clause-plain c = stands_plain

pub returns-clause-balance : goal.returns-clause-balance
returns-clause-balance c =
    λ t h own events are. (cut_from_stands t h own events are, stands_from_cut t h own events are)

pub returns-clause-told : goal.returns-clause-told
returns-clause-told c = told_stands
