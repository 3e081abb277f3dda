use Rattle.sweep_laws.proofs.Pairing.{opens_joined, pairs_same}
use Rattle.sweep_laws.proofs.join_laws.open_pairs_are_pairs_of_open_rows.Goals as goal

pub returns : goal.returns
returns c = record { opens = opens_joined; same = pairs_same }
