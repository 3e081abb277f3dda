use Rattle.plan_model.proofs.LineOrder.{lines_sorted}
use Rattle.plan_model.proofs.changes_laws.lines_stand_in_order.Goals as goal

pub returns : goal.returns
returns c = λ rows a n. lines_sorted rows a n
