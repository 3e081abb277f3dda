use Rattle.plan_model.proofs.Kept.{IsPlan-ordered}
use Rattle.plan_model.proofs.Levels.{IsPlan-levelled}
use Rattle.admission.proofs.Finality.{written_after}
use Rattle.admission.proofs.Growing.{due_writes, closed_is, nothing_closed}
use Rattle.admission.proofs.text_laws.text_grows_at_punctuations.Goals as goal

pub returns-clause-admitted : goal.returns-clause-admitted
returns-clause-admitted c = λ plan is. written_after plan (IsPlan-ordered plan is) (IsPlan-levelled plan is)

pub returns-clause-due : goal.returns-clause-due
returns-clause-due c = due_writes

pub returns-clause-closed : goal.returns-clause-closed
returns-clause-closed c = closed_is

pub returns-clause-nothing : goal.returns-clause-nothing
returns-clause-nothing c = nothing_closed
