use Rattle.plan_laws.proofs.Standing.{stands_by}
use Rattle.plan_laws.proofs.standing_laws.standing_edges_stand_read.Goals as goal

pub returns : goal.returns
returns c = stands_by
