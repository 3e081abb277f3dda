use Rattle.edge_history.proofs.Telling.{told_history}
use Rattle.edge_history.proofs.telling_laws.told_edges_are_a_history.Goals as goal

pub returns : goal.returns
returns c = told_history
