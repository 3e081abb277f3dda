use Rattle.plan_model.proofs.Dividing.{IsDivided-unique}
use Rattle.plan_model.proofs.arith_laws.division_is_euclidean.Goals as goal

pub returns-clause-one : goal.returns-clause-one
returns-clause-one c = IsDivided-unique
