use Rattle.tw_rows.proofs.Lives.{alive_known}
use Rattle.edge_history.specs.History.{of}
use Rattle.edge_history.proofs.standing_laws.standing_edges_have_the_rows.Goals as goal

pub returns : goal.returns
returns c = λ bound t h events low high k. alive_known bound t (of h) events low high k.same
