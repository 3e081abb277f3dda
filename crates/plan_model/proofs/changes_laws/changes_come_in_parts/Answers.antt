use Rattle.plan_model.proofs.Counting.{changes-add}
use Rattle.plan_model.proofs.changes_laws.changes_come_in_parts.Goals as goal

pub returns : goal.returns
returns c = changes-add
