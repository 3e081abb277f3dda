use Rattle.admission.proofs.Bounding.{lines_admitted}
use Rattle.admission.proofs.text_laws.lines_without_fault_are_admitted.Goals as goal

pub returns : goal.returns
returns c = lines_admitted
