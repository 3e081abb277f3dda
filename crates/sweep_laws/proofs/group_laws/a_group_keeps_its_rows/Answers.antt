use Rattle.sweep_laws.proofs.GroupReaching.{group_step, group_step_undefined}
use Rattle.sweep_laws.proofs.group_laws.a_group_keeps_its_rows.Goals as goal

pub returns : goal.returns
returns g c = record { keeps = group_step; undefined = group_step_undefined }
