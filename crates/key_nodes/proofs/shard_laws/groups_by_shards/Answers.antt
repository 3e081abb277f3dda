use Rattle.key_nodes.proofs.Shards.{grouped_shards}
use Rattle.key_nodes.proofs.shard_laws.groups_by_shards.Goals as goal

pub returns : goal.returns
returns g c = grouped_shards
