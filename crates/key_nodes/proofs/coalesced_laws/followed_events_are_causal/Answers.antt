use Rattle.key_nodes.proofs.Following.{followed_known}
use Rattle.key_nodes.proofs.coalesced_laws.followed_events_are_causal.Goals as goal

pub returns : goal.returns
returns g c = followed_known
