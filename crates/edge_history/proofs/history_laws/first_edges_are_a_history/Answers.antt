use Rattle.edge_history.proofs.Parts.{history_first}
use Rattle.edge_history.proofs.history_laws.first_edges_are_a_history.Goals as goal

pub returns : goal.returns
returns c = history_first
