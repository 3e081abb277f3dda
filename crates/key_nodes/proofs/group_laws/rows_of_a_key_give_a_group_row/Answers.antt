use Rattle.key_nodes.proofs.Grouping.{group_row_of}
use Rattle.key_nodes.proofs.group_laws.rows_of_a_key_give_a_group_row.Goals as goal

pub returns : goal.returns
returns g c = group_row_of
