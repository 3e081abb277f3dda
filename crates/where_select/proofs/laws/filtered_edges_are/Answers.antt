use Rattle.where_select.proofs.Edges.{edges-filtered}
use Rattle.where_select.proofs.laws.filtered_edges_are.Goals as goal

pub returns : goal.returns
returns c = edges-filtered
