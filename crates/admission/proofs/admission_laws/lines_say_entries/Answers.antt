use Rattle.admission.proofs.Growing.{line_read}
use Rattle.admission.proofs.admission_laws.lines_say_entries.Goals as goal

pub returns : goal.returns
returns c = line_read
