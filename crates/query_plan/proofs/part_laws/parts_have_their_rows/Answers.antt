use Rattle.query_plan.proofs.Together.{rows_together, ends_of_part, starts_of_part, none_of_others}
use Rattle.query_plan.proofs.part_laws.parts_have_their_rows.Goals as goal

pub returns-clause-together : goal.returns-clause-together
returns-clause-together c = rows_together

pub returns-clause-ends : goal.returns-clause-ends
returns-clause-ends c = ends_of_part

pub returns-clause-starts : goal.returns-clause-starts
returns-clause-starts c = starts_of_part

pub returns-clause-others : goal.returns-clause-others
returns-clause-others c = none_of_others
