use Rattle.key_nodes.proofs.Sessioning.{sessions_valid}
use Rattle.key_nodes.proofs.session_laws.sessions_have_lives.Goals as goal

pub returns : goal.returns
returns g c = sessions_valid
