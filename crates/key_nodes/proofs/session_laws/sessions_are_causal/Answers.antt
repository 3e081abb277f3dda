use Rattle.key_nodes.proofs.Sessioning.{sessions_known}
use Rattle.key_nodes.proofs.session_laws.sessions_are_causal.Goals as goal

pub returns : goal.returns
returns g c = sessions_known
