use Rattle.key_nodes.proofs.Ends.{starts_next_is}
use Rattle.key_nodes.proofs.coalesced_laws.followed_events_are_next.Goals as goal

pub returns : goal.returns
returns g c = starts_next_is
