use Rattle.admission.proofs.Rising.{lines_going, dues_rise, last_is, skip_stays}
use Rattle.admission.proofs.text_laws.punctuations_rise.Goals as goal

pub returns-clause-going : goal.returns-clause-going
returns-clause-going c = lines_going

pub returns-clause-rise : goal.returns-clause-rise
returns-clause-rise c = dues_rise

pub returns-clause-next : goal.returns-clause-next
returns-clause-next c = last_is

pub returns-clause-skipped : goal.returns-clause-skipped
returns-clause-skipped c = skip_stays
