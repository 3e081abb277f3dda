use Rattle.plan_laws.proofs.Histories.{answers_add, rises_on}
use Rattle.plan_laws.proofs.shard_laws.answers_of_shards_add_up.Goals as goal

pub returns-clause-bag : goal.returns-clause-bag
returns-clause-bag c = answers_add

pub returns-clause-order : goal.returns-clause-order
returns-clause-order c = rises_on
