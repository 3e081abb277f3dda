-- What is answered by hand of the proof of laws::queues_stay.
use Rattle.sweep_laws.proofs.Queueing.{stays_told, stays_same}
use Rattle.sweep_laws.proofs.queue_laws.queues_stay.Goals as goal

pub returns-clause-told : goal.returns-clause-told
returns-clause-told c = λ same f t tells low still w. stays_told same f tells t low still w

pub returns-clause-same : goal.returns-clause-same
returns-clause-same c = λ same f t still r. stays_same same f t still r
