use Rattle.dataflow.proofs.fault.PlanFaultDisplay.fmt.Goals as goal

pub returns-in-Overflow-clause-writes : goal.returns-in-Overflow-clause-writes
returns-in-Overflow-clause-writes g c = λ plain ok. (let h = c.write.ensures.writes plain ok in rw c.in-Overflow.is (rw c.word.ensures.word at h))
