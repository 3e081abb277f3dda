use Rattle.edge_history.proofs.Waiting.{side_bound}
use Rattle.edge_history.proofs.open_laws.kept_rows_are_bounded.Goals as goal

pub returns : goal.returns
returns c = side_bound
