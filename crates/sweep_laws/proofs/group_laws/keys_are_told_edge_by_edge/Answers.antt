use Rattle.sweep_laws.proofs.Passing.{ends_more, starts_more}
use Rattle.sweep_laws.proofs.group_laws.keys_are_told_edge_by_edge.Goals as goal

pub returns : goal.returns
returns g c = record { ends = ends_more; starts = starts_more }
