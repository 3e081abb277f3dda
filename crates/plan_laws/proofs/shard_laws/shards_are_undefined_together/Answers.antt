use Rattle.plan_laws.proofs.Sums.{undefined_by_shards, least_of_shards, none_of_shards}
use Rattle.plan_laws.proofs.shard_laws.shards_are_undefined_together.Goals as goal

pub returns-clause-instants : goal.returns-clause-instants
returns-clause-instants c n keyed shard count low texts apart h history placed t = undefined_by_shards shard count low texts apart h history placed t n keyed

pub returns-clause-least : goal.returns-clause-least
returns-clause-least c = least_of_shards

pub returns-clause-none : goal.returns-clause-none
returns-clause-none c = none_of_shards
