use Rattle.plan_laws.proofs.Histories.{history_where, placed_bag}
use Rattle.plan_laws.proofs.shard_laws.shards_have_histories.Goals as goal

pub returns-clause-history : goal.returns-clause-history
returns-clause-history c = history_where

pub returns-clause-placed : goal.returns-clause-placed
returns-clause-placed c = placed_bag
