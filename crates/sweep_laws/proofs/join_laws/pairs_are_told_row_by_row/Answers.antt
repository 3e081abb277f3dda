use Rattle.sweep_laws.proofs.PairsTold.{told_more, rows_told_more}
use Rattle.sweep_laws.proofs.join_laws.pairs_are_told_row_by_row.Goals as goal

pub returns : goal.returns
returns c = record { row = told_more; edge = rows_told_more }
