use Rattle.edge_history.specs.History.{of}
use Rattle.edge_history.proofs.Retaining.{events_of_are, retained, retains_from}
use Rattle.edge_history.proofs.side_laws.retained_events_reach.Goals as goal

pub returns-clause-plain : goal.returns-clause-plain
returns-clause-plain c = λ t kept h high k.
    let are = events_of_are h k in
    (λ r. retained t kept h (of h) high r are, λ same. retains_from t kept h (of h) high are same)

pub returns-clause-balance : goal.returns-clause-balance
returns-clause-balance c =
    λ t kept h a high are. (λ r. retained t kept h a high r are, λ same. retains_from t kept h a high are same)
