use Rattle.tw_rows.specs.Event.{alive}
use Rattle.tw_rows.proofs.Lives.{alive_known}
use Rattle.key_nodes.proofs.Topping.{coalesced_known_of}
use Rattle.key_nodes.proofs.coalesced_laws.coalesced_events_are_causal.Goals as goal

pub returns-clause-rows : goal.returns-clause-rows
returns-clause-rows g c = coalesced_known_of

pub returns-clause-events : goal.returns-clause-events
returns-clause-events g c =
    λ same c a b tells h.
    coalesced_known_of same (alive a) (alive b) c tells h.low (λ t early. alive_known c t a b early h.low h.same)
