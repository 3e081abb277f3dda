use Rattle.sweep_laws.proofs.GroupReaching.{group_reach_start, group_reach_step, group_reach_undefined, group_reach_end}
use Rattle.sweep_laws.proofs.group_laws.a_group_goes_from_instant_to_instant.Goals as goal

pub returns : goal.returns
returns g c = record { start = group_reach_start; step = group_reach_step; undefined = group_reach_undefined; end = group_reach_end }
