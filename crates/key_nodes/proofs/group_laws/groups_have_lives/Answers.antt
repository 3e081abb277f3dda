use Rattle.key_nodes.proofs.Grouping.{grouped_valid}
use Rattle.key_nodes.proofs.group_laws.groups_have_lives.Goals as goal

pub returns : goal.returns
returns g c = grouped_valid
