use Rattle.edge_history.proofs.Sums.{failing-All}
use Rattle.edge_history.proofs.history_laws.none_fails_where_all_pass.Goals as goal

pub returns : goal.returns
returns c = λ test h. failing-All test h
