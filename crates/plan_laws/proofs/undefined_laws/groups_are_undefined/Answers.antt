use Rattle.plan_laws.proofs.Undefinedness.{defined_is, undefined_others}
use Rattle.plan_laws.proofs.undefined_laws.groups_are_undefined.Goals as goal

pub returns-clause-groups : goal.returns-clause-groups
returns-clause-groups g c = defined_is

pub returns-clause-others : goal.returns-clause-others
returns-clause-others g c = undefined_others
