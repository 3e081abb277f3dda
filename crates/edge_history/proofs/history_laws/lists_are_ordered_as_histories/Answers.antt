use Rattle.edge_history.proofs.Agreeing.{same_order}
use Rattle.edge_history.proofs.history_laws.lists_are_ordered_as_histories.Goals as goal

pub returns : goal.returns
returns c = same_order
