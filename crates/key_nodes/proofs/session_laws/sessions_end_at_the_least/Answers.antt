use Rattle.key_nodes.proofs.Ends.{session_end_least}
use Rattle.key_nodes.proofs.session_laws.sessions_end_at_the_least.Goals as goal

pub returns : goal.returns
returns c = session_end_least
