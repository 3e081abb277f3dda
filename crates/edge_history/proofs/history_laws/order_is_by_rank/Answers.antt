use Rattle.edge_history.proofs.Rising.{rises-sorted}
use Rattle.edge_history.proofs.history_laws.order_is_by_rank.Goals as goal

pub returns : goal.returns
returns c = rises-sorted
