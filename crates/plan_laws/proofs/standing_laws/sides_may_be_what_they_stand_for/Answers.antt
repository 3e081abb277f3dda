use Rattle.plan_laws.proofs.Standing.{stands_of_sides}
use Rattle.plan_laws.proofs.standing_laws.sides_may_be_what_they_stand_for.Goals as goal

pub returns : goal.returns
returns c = stands_of_sides
