use Rattle.admission.proofs.Steps.{nothing_sound, taken_goes}
use Rattle.admission.proofs.admission_laws.admitted_entries_leave_what_is_known.Goals as goal

pub returns-clause-first : goal.returns-clause-first
returns-clause-first c = nothing_sound

pub returns-clause-next : goal.returns-clause-next
returns-clause-next c = taken_goes
