use Rattle.where_select.proofs.Ordered.{filter_keeps}
use Rattle.where_select.proofs.laws.filtered_edges_keep_order.Goals as goal

pub returns : goal.returns
returns c = filter_keeps
