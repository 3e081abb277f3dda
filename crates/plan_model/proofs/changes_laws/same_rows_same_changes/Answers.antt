use Rattle.plan_model.proofs.Steady.{changes_same}
use Rattle.plan_model.proofs.changes_laws.same_rows_same_changes.Goals as goal

pub returns : goal.returns
returns c = λ f g bound h a n low. changes_same f g bound h a n low
