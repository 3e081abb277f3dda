use Rattle.ingress.proofs.Holding.{given_held}
use Rattle.ingress.proofs.held_laws.held_edges_are_given_in_order.Goals as goal

pub returns : goal.returns
returns c = given_held
