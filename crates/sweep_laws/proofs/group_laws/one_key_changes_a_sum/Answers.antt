use Rattle.sweep_laws.proofs.GroupSweeps.{one_key}
use Rattle.sweep_laws.proofs.group_laws.one_key_changes_a_sum.Goals as goal

pub returns : goal.returns
returns g c = one_key
