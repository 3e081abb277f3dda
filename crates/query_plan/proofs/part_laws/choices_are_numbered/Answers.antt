use Rattle.query_plan.proofs.Numbers.{each_choice, each_number}
use Rattle.query_plan.proofs.part_laws.choices_are_numbered.Goals as goal

pub returns-clause-each : goal.returns-clause-each
returns-clause-each c = each_choice

pub returns-clause-once : goal.returns-clause-once
returns-clause-once c = each_number
