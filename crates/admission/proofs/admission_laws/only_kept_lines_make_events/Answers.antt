use Rattle.admission.proofs.Answering.{taken_made}
use Rattle.admission.proofs.admission_laws.only_kept_lines_make_events.Goals as goal

pub returns : goal.returns
returns c = taken_made
