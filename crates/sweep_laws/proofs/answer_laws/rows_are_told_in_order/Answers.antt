use Rattle.sweep_laws.proofs.RowsTold.{ends_in_order, starts_in_order}
use Rattle.sweep_laws.proofs.answer_laws.rows_are_told_in_order.Goals as goal

pub returns : goal.returns
returns c = record { ends = ends_in_order; starts = starts_in_order }
