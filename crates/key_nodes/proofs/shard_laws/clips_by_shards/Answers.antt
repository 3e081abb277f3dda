use Rattle.key_nodes.proofs.Shards.{clipped_shards}
use Rattle.key_nodes.proofs.shard_laws.clips_by_shards.Goals as goal

pub returns : goal.returns
returns g c = clipped_shards
