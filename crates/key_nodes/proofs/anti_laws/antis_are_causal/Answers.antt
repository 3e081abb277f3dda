use Rattle.key_nodes.proofs.Alone.{alone_known}
use Rattle.key_nodes.proofs.anti_laws.antis_are_causal.Goals as goal

pub returns : goal.returns
returns g c = alone_known
