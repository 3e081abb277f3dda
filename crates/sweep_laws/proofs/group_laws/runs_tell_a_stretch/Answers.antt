use Rattle.sweep_laws.proofs.RunTells.{stretch}
use Rattle.sweep_laws.proofs.RunOrder.{open_early}
use Rattle.sweep_laws.proofs.group_laws.runs_tell_a_stretch.Goals as goal

pub returns : goal.returns
returns c = record { told = stretch; early = open_early }
