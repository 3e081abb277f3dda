use Rattle.plan_laws.proofs.Selecting.{selected_stand, selected_more, selected_longer, selected_from}
use Rattle.plan_laws.proofs.select_laws.selected_edges_stand_read.Goals as goal

pub returns-clause-stands : goal.returns-clause-stands
returns-clause-stands c = selected_stand

pub returns-clause-more : goal.returns-clause-more
returns-clause-more c = selected_more

pub returns-clause-longer : goal.returns-clause-longer
returns-clause-longer c = selected_longer

pub returns-clause-later : goal.returns-clause-later
returns-clause-later c = selected_from
