use Rattle.query_text.proofs.OneAnswer.{spelled_or_not, no_fault, one_fault}
use Rattle.query_text.proofs.laws.texts_have_one_fault.Goals as goal

pub returns-clause-some : goal.returns-clause-some
returns-clause-some c = spelled_or_not

pub returns-clause-spelled : goal.returns-clause-spelled
returns-clause-spelled c = no_fault

pub returns-clause-one : goal.returns-clause-one
returns-clause-one c = one_fault
