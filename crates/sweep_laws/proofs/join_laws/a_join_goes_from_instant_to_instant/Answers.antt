use Rattle.sweep_laws.proofs.Joins.{join_reach_start, join_reach_step, join_reach_end}
use Rattle.sweep_laws.proofs.join_laws.a_join_goes_from_instant_to_instant.Goals as goal

pub returns : goal.returns
returns c = record { start = join_reach_start; step = join_reach_step; end = join_reach_end }
