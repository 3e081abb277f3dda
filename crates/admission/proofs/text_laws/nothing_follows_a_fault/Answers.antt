use Rattle.plan_model.proofs.Kept.{IsPlan-ordered}
use Rattle.plan_model.proofs.Levels.{IsPlan-levelled}
use Rattle.admission.proofs.Stays.{progress_stays, text_stays}
use Rattle.admission.proofs.text_laws.nothing_follows_a_fault.Goals as goal

pub returns-clause-stays : goal.returns-clause-stays
returns-clause-stays c = progress_stays

pub returns-clause-text : goal.returns-clause-text
returns-clause-text c = λ print plan is policy lines line f. text_stays plan (IsPlan-ordered plan is) (IsPlan-levelled plan is) policy print lines line f
