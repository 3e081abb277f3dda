use Rattle.admission.proofs.Bounding.{bound_greatest, mark_greatest, only_bound_greatest, only_allowed}
use Rattle.admission.proofs.admission_laws.bounds_are_greatest.Goals as goal

pub returns-clause-bound : goal.returns-clause-bound
returns-clause-bound c = bound_greatest

pub returns-clause-mark : goal.returns-clause-mark
returns-clause-mark c = mark_greatest

pub returns-clause-only : goal.returns-clause-only
returns-clause-only c = only_bound_greatest

pub returns-clause-only_allowed : goal.returns-clause-only_allowed
returns-clause-only_allowed c = only_allowed
