use Rattle.where_select.proofs.Edges.{edges-projected}
use Rattle.where_select.proofs.laws.projected_edges_are.Goals as goal

pub returns : goal.returns
returns c = edges-projected
