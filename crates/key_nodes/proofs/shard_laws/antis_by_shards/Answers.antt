use Rattle.key_nodes.proofs.Shards.{alone_shards}
use Rattle.key_nodes.proofs.shard_laws.antis_by_shards.Goals as goal

pub returns : goal.returns
returns g c =
    λ same_row meets left_shard right_shard n agree low left right.
    alone_shards meets left_shard right_shard n agree low same_row left right
