use Rattle.key_nodes.proofs.Shards.{sessions_shards}
use Rattle.key_nodes.proofs.shard_laws.sessions_by_shards.Goals as goal

pub returns : goal.returns
returns g c = λ key same timeout tells shard n low events. sessions_shards key same tells shard n low timeout events
