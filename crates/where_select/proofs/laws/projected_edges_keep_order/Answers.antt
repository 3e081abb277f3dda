use Rattle.where_select.proofs.Ordered.{projection_keeps}
use Rattle.where_select.proofs.laws.projected_edges_keep_order.Goals as goal

pub returns : goal.returns
returns c = projection_keeps
