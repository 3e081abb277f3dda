use Rattle.plan_laws.proofs.Undefinedness.{undefined_final, first_final}
use Rattle.plan_laws.proofs.undefined_laws.undefined_is_final.Goals as goal

pub returns-clause-instants : goal.returns-clause-instants
returns-clause-instants c = undefined_final

pub returns-clause-first : goal.returns-clause-first
returns-clause-first c = first_final
