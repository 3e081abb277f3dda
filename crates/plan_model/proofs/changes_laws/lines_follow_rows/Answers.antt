use Rattle.plan_model.proofs.Counting.{how_many_starts, how_many_ends}
use Rattle.plan_model.proofs.changes_laws.lines_follow_rows.Goals as goal

pub returns-clause-starts : goal.returns-clause-starts
returns-clause-starts c = λ rows r t. how_many_starts rows r t

pub returns-clause-ends : goal.returns-clause-ends
returns-clause-ends c = λ rows r t. how_many_ends rows r t
