use Rattle.key_nodes.proofs.Topping.{top_known}
use Rattle.key_nodes.proofs.coalesced_laws.tops_are_causal.Goals as goal

pub returns : goal.returns
returns g c = λ same meets value count c a b tells h. top_known meets value count same tells c a b h
