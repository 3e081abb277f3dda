use Rattle.where_select.proofs.MadeEdges.{first_made, made_more, made_longer, made_stand}
use Rattle.where_select.proofs.stage_laws.made_edges_stand_read.Goals as goal

pub returns-clause-first : goal.returns-clause-first
returns-clause-first c = first_made

pub returns-clause-more : goal.returns-clause-more
returns-clause-more c = made_more

pub returns-clause-longer : goal.returns-clause-longer
returns-clause-longer c = made_longer

pub returns-clause-stands : goal.returns-clause-stands
returns-clause-stands c = made_stand
