use Rattle.edge_history.proofs.Retaining.{retain_less}
use Rattle.edge_history.proofs.side_laws.retained_for_a_later_time.Goals as goal

pub returns : goal.returns
returns c = retain_less
