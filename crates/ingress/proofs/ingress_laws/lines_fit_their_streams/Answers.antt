use Rattle.ingress.proofs.LinesFit.{line_fits}
use Rattle.ingress.proofs.ingress_laws.lines_fit_their_streams.Goals as goal

pub returns : goal.returns
returns c = line_fits
