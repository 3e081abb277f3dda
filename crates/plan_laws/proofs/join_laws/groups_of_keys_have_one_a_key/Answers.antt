use Rattle.plan_laws.proofs.OneRows.{one_a_key}
use Rattle.plan_laws.proofs.join_laws.groups_of_keys_have_one_a_key.Goals as goal

pub returns : goal.returns
returns g c = one_a_key
