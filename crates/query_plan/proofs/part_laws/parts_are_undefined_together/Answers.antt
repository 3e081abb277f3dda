use Rattle.query_plan.proofs.Together.{undefined_together}
use Rattle.query_plan.proofs.part_laws.parts_are_undefined_together.Goals as goal

pub returns : goal.returns
returns c = undefined_together
