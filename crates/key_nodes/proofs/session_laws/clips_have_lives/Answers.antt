use Rattle.key_nodes.proofs.Clipping.{clipped_valid}
use Rattle.key_nodes.proofs.session_laws.clips_have_lives.Goals as goal

pub returns : goal.returns
returns g c = clipped_valid
