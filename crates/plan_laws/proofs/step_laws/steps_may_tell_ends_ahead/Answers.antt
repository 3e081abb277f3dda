use Rattle.plan_laws.proofs.StepsAhead.{ahead_first, ahead_longer, ahead_step, ahead_stand, ahead_placed, ahead_read}
use Rattle.plan_laws.proofs.step_laws.steps_may_tell_ends_ahead.Goals as goal

pub returns-clause-first : goal.returns-clause-first
returns-clause-first c = ahead_first

pub returns-clause-longer : goal.returns-clause-longer
returns-clause-longer c = ahead_longer

pub returns-clause-kept : goal.returns-clause-kept
returns-clause-kept c = ahead_step

pub returns-clause-cells : goal.returns-clause-cells
returns-clause-cells c = ahead_stand

pub returns-clause-placed : goal.returns-clause-placed
returns-clause-placed c = ahead_placed

pub returns-clause-rows : goal.returns-clause-rows
returns-clause-rows c = ahead_read
