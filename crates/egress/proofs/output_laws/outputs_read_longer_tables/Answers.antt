use Rattle.plan_laws.proofs.Standing.{placed_longer}
use Rattle.egress.specs.Waiting.{edges_if, waiting_in}
use Rattle.egress.proofs.Taking.{holds_longer}
use Rattle.egress.proofs.output_laws.outputs_read_longer_tables.Goals as goal

pub returns-clause-holds : goal.returns-clause-holds
returns-clause-holds c = holds_longer

pub returns-clause-placed : goal.returns-clause-placed
returns-clause-placed c = λ new old begins o p t. placed_longer new old begins (edges_if (waiting_in o.waiting t)) (p t)
