use Rattle.key_nodes.proofs.Alone.{alone_valid}
use Rattle.key_nodes.proofs.anti_laws.antis_have_lives.Goals as goal

pub returns : goal.returns
returns g c = alone_valid
