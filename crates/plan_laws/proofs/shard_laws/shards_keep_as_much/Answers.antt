use Rattle.plan_laws.proofs.Held.{held_together}
use Rattle.plan_laws.proofs.shard_laws.shards_keep_as_much.Goals as goal

pub returns : goal.returns
returns c = held_together
