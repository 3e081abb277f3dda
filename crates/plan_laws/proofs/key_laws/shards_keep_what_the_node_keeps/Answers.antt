use Rattle.plan_laws.proofs.ShardSteps.{shards_keep}
use Rattle.plan_laws.proofs.ShardsAhead.{shards_keep_ahead}
use Rattle.plan_laws.proofs.key_laws.shards_keep_what_the_node_keeps.Goals as goal

pub returns-clause-kept : goal.returns-clause-kept
returns-clause-kept c = shards_keep

pub returns-clause-ahead : goal.returns-clause-ahead
returns-clause-ahead c = shards_keep_ahead
