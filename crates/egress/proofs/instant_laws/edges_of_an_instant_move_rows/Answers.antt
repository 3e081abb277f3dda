use Rattle.std.specs.Prelude.{suc}
use Rattle.edge_history.specs.Balance.{news}
use Rattle.egress.proofs.Moving.{edges_move, moves_of_same}
use Rattle.egress.proofs.instant_laws.edges_of_an_instant_move_rows.Goals as goal

pub returns : goal.returns
returns c = λ texts events t now valid same. edges_move texts events t now valid (moves_of_same now (news t (suc t) events) same)
