use Rattle.plan_model.proofs.Kept.{IsPlan-ordered}
use Rattle.plan_model.proofs.Levels.{IsPlan-levelled}
use Rattle.admission.proofs.Finality.{rows_final}
use Rattle.admission.proofs.Growing.{snapshots_stay}
use Rattle.admission.proofs.text_laws.rows_are_final.Goals as goal

pub returns-clause-streams : goal.returns-clause-streams
returns-clause-streams c = λ plan is policy lines more ended s. rows_final plan (IsPlan-ordered plan is) (IsPlan-levelled plan is) policy lines more ended s

pub returns-clause-nodes : goal.returns-clause-nodes
returns-clause-nodes c = snapshots_stay
