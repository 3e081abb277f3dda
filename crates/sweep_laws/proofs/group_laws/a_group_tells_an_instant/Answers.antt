use Rattle.sweep_laws.proofs.GroupReaching.{group_instant, group_instant_undefined}
use Rattle.sweep_laws.proofs.group_laws.a_group_tells_an_instant.Goals as goal

pub returns : goal.returns
returns g c = record { told = group_instant; undefined = group_instant_undefined }
