use Rattle.key_nodes.proofs.Clipping.{clipped_known}
use Rattle.key_nodes.proofs.session_laws.clips_are_causal.Goals as goal

pub returns : goal.returns
returns g c = clipped_known
