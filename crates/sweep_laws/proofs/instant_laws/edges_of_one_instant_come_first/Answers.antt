use Rattle.sweep_laws.proofs.Instants.{now_is, none_before, rest_is, syncs_rise}
use Rattle.sweep_laws.proofs.instant_laws.edges_of_one_instant_come_first.Goals as goal

pub returns : goal.returns
returns c = record { now = now_is; before = none_before; rest = rest_is; order = syncs_rise }
