use Rattle.plan_laws.proofs.Steps.{keeps_stand, keeps_placed, keeps_read}
use Rattle.plan_laws.proofs.step_laws.what_is_told_stands_for_the_node.Goals as goal

pub returns-clause-cells : goal.returns-clause-cells
returns-clause-cells c = keeps_stand

pub returns-clause-placed : goal.returns-clause-placed
returns-clause-placed c = keeps_placed

pub returns-clause-rows : goal.returns-clause-rows
returns-clause-rows c = keeps_read
