use Rattle.ingress.proofs.Timed.{line_timed, nothing_timed, taken_timed, due_timed}
use Rattle.ingress.proofs.ingress_laws.event_times_stay.Goals as goal

pub returns-clause-lines : goal.returns-clause-lines
returns-clause-lines c = line_timed

pub returns-clause-none : goal.returns-clause-none
returns-clause-none c = nothing_timed

pub returns-clause-next : goal.returns-clause-next
returns-clause-next c = taken_timed

pub returns-clause-due : goal.returns-clause-due
returns-clause-due c = due_timed
