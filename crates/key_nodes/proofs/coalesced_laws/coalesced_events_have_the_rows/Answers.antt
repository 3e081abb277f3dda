use Rattle.key_nodes.proofs.Coalescing.{coalesced_same}
use Rattle.key_nodes.proofs.CoalescedRows.{coalesced_rows}
use Rattle.key_nodes.proofs.coalesced_laws.coalesced_events_have_the_rows.Goals as goal

pub returns-clause-alive : goal.returns-clause-alive
returns-clause-alive g c = λ same rows t tells low. coalesced_rows same tells rows t low

pub returns-clause-order : goal.returns-clause-order
returns-clause-order g c = λ same rows rows2 tells h. coalesced_same same tells rows rows2 h
