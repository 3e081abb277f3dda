use Rattle.command_line.proofs.Same.{policy_is}
use Rattle.command_line.proofs.words.policy_of.Goals as goal

pub returns : goal.returns
returns c = λ a s. policy_is c.number_of.result a.policy.lateness c.late_of.result a.policy.late c.number_of-2.result a.policy.period
    (c.number_of.ensures 0 1152921504606846975 a.policy.lateness s.lateness) (c.late_of.ensures a.policy.late s.late) (c.number_of-2.ensures 0 1152921504606846975 a.policy.period s.punctuate)
