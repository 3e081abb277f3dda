use Rattle.plan_laws.proofs.Undefinedness.{overflow_some, overflow_none, overflow_final}
use Rattle.plan_laws.proofs.undefined_laws.overflow_is.Goals as goal

pub returns-clause-some : goal.returns-clause-some
returns-clause-some c = overflow_some

pub returns-clause-none : goal.returns-clause-none
returns-clause-none c = overflow_none

pub returns-clause-later : goal.returns-clause-later
returns-clause-later c = overflow_final
