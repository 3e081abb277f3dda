use Rattle.plan_model.proofs.Kept.{IsPlan-ordered}
use Rattle.plan_model.proofs.Levels.{IsPlan-levelled}
use Rattle.admission.proofs.Finality.{text_final}
use Rattle.admission.proofs.text_laws.text_is_final.Goals as goal

pub returns : goal.returns
returns c = λ print plan is policy lines more ended. text_final plan (IsPlan-ordered plan is) (IsPlan-levelled plan is) policy print lines more ended
