use Rattle.plan_model.proofs.Kept.{IsPlan-ordered}
use Rattle.plan_model.proofs.Levels.{IsPlan-levelled}
use Rattle.plan_model.proofs.plan_laws.plans_are_sound.Goals as goal

pub returns-clause-ordered : goal.returns-clause-ordered
returns-clause-ordered c = IsPlan-ordered

pub returns-clause-levelled : goal.returns-clause-levelled
returns-clause-levelled c = IsPlan-levelled
