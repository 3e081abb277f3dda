use Rattle.key_nodes.proofs.Ends.{clip_end_least}
use Rattle.key_nodes.proofs.session_laws.clips_end_at_the_least.Goals as goal

pub returns : goal.returns
returns g c = clip_end_least
