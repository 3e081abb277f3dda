use Rattle.key_nodes.proofs.Shards.{joined_shards}
use Rattle.key_nodes.proofs.shard_laws.joins_by_shards.Goals as goal

pub returns : goal.returns
returns g c =
    λ meets pair left_shard right_shard n agree low left right.
    joined_shards meets left_shard right_shard n agree low pair left right
