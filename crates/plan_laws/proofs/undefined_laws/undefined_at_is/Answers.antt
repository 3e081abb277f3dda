use Rattle.std.proofs.Common.{ap}
use Rattle.plan_laws.specs.Undefined.{undefined_node}
use Rattle.plan_laws.proofs.Undefinedness.{group_at}
use Rattle.plan_laws.proofs.undefined_laws.undefined_at_is.Goals as goal

pub returns-clause-node : goal.returns-clause-node
returns-clause-node c = λ source nodes i t n there. ap (undefined_node source nodes t) there

pub returns-clause-group : goal.returns-clause-group
returns-clause-group c = group_at

pub returns-clause-none : goal.returns-clause-none
returns-clause-none c = λ source nodes i t there. ap (undefined_node source nodes t) there
