use Rattle.key_nodes.proofs.CoalescedRows.{coalesced_valid}
use Rattle.key_nodes.proofs.coalesced_laws.coalesced_events_have_lives.Goals as goal

pub returns : goal.returns
returns g c = λ same rows tells. coalesced_valid same tells rows
