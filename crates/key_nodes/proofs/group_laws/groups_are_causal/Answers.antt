use Rattle.key_nodes.proofs.Grouping.{grouped_known}
use Rattle.key_nodes.proofs.group_laws.groups_are_causal.Goals as goal

pub returns : goal.returns
returns g c = grouped_known
