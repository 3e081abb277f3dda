use Rattle.ingress.proofs.Holding.{held_stands}
use Rattle.ingress.proofs.held_laws.given_edges_stand.Goals as goal

pub returns : goal.returns
returns c = held_stands
