use Rattle.plan_laws.proofs.Undefinedness.{first_below_same, first_below_some, first_below_none}
use Rattle.plan_laws.proofs.undefined_laws.first_undefined_is.Goals as goal

pub returns-clause-some : goal.returns-clause-some
returns-clause-some c = first_below_some

pub returns-clause-none : goal.returns-clause-none
returns-clause-none c = first_below_none

pub returns-clause-order : goal.returns-clause-order
returns-clause-order c = first_below_same
