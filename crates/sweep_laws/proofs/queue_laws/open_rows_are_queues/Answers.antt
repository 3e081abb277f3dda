-- What is answered by hand of the proof of laws::open_rows_are_queues.
use Rattle.sweep_laws.proofs.Queueing.{opens_are, queues_next, touched_told}
use Rattle.sweep_laws.proofs.queue_laws.open_rows_are_queues.Goals as goal

pub returns-clause-opens : goal.returns-clause-opens
returns-clause-opens c = λ same f t low. opens_are same f t low

pub returns-clause-next : goal.returns-clause-next
returns-clause-next c = λ same f t ends starts h since is r. queues_next same f t ends starts h since is r

pub returns-clause-told : goal.returns-clause-told
returns-clause-told c = λ same f t ends starts tells low h since is touched others w. touched_told same f tells t low ends starts h since is touched others w
