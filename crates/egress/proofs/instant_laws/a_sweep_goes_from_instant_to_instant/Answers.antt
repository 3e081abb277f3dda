use Rattle.egress.proofs.Reaching.{reached_first, reached_next, reached_later}
use Rattle.egress.proofs.instant_laws.a_sweep_goes_from_instant_to_instant.Goals as goal

pub returns-clause-first : goal.returns-clause-first
returns-clause-first c = reached_first

pub returns-clause-next : goal.returns-clause-next
returns-clause-next c = reached_next

pub returns-clause-later : goal.returns-clause-later
returns-clause-later c = reached_later
