use Rattle.plan_laws.proofs.Sums.{shards_stand}
use Rattle.plan_laws.proofs.shard_laws.shards_stand_together.Goals as goal

pub returns : goal.returns
returns c = shards_stand
