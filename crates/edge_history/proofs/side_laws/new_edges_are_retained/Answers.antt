use Rattle.std.specs.Prelude.{refl}
use Rattle.edge_history.proofs.Retaining.{retain_more}
use Rattle.edge_history.proofs.side_laws.new_edges_are_retained.Goals as goal

pub returns-clause-first : goal.returns-clause-first
returns-clause-first c = λ t. record { weigh = λ w. refl }

pub returns-clause-more : goal.returns-clause-more
returns-clause-more c =
    λ t kept h new high k history from. retain_more t kept h new high k history.real history.paired from
