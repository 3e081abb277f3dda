use Rattle.plan_laws.proofs.Keys.{node_shards, undefined_shards, undefined_instants}
use Rattle.plan_laws.proofs.key_laws.nodes_by_shards.Goals as goal

pub returns-clause-events : goal.returns-clause-events
returns-clause-events g c = node_shards

pub returns-clause-undefined : goal.returns-clause-undefined
returns-clause-undefined g c = undefined_shards

pub returns-clause-instants : goal.returns-clause-instants
returns-clause-instants g c = undefined_instants
