use Rattle.plan_laws.proofs.Undefinedness.{undefined_alike, undefined_known}
use Rattle.plan_laws.proofs.undefined_laws.undefined_nodes_are_alike.Goals as goal

pub returns-clause-rows : goal.returns-clause-rows
returns-clause-rows g c = undefined_alike

pub returns-clause-events : goal.returns-clause-events
returns-clause-events g c = undefined_known
