use Rattle.egress.proofs.Touched.{quiet_open}
use Rattle.egress.proofs.instant_laws.quiet_instants_keep_what_is_open.Goals as goal

pub returns : goal.returns
returns c = quiet_open
