use Rattle.plan_laws.proofs.Selecting.{tested_stand, tested_more, tested_longer, tested_from}
use Rattle.plan_laws.proofs.select_laws.tested_edges_stand_read.Goals as goal

pub returns-clause-stands : goal.returns-clause-stands
returns-clause-stands c = tested_stand

pub returns-clause-more : goal.returns-clause-more
returns-clause-more c = tested_more

pub returns-clause-longer : goal.returns-clause-longer
returns-clause-longer c = tested_longer

pub returns-clause-later : goal.returns-clause-later
returns-clause-later c = tested_from
