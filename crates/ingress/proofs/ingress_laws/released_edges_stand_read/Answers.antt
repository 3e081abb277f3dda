use Rattle.ingress.proofs.Reading.{follows_stand}
use Rattle.ingress.proofs.ingress_laws.released_edges_stand_read.Goals as goal

pub returns : goal.returns
returns c = follows_stand
