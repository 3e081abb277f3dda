use Rattle.key_nodes.proofs.Following.{followed_valid}
use Rattle.key_nodes.proofs.coalesced_laws.followed_events_have_lives.Goals as goal

pub returns : goal.returns
returns g c = followed_valid
