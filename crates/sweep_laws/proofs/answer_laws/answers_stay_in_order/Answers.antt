use Rattle.sweep_laws.proofs.Ordering.{order_later, order_push, adds_order}
use Rattle.sweep_laws.proofs.answer_laws.answers_stay_in_order.Goals as goal

pub returns : goal.returns
returns c = record { later = order_later; push = order_push; more = adds_order }
