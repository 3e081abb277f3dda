use Rattle.sweep_laws.proofs.SessionSteps.{session_step, gap_is_last}
use Rattle.sweep_laws.proofs.life_laws.sessions_end_at_a_gap.Goals as goal

pub returns : goal.returns
returns c = record { step = session_step; last = gap_is_last }
