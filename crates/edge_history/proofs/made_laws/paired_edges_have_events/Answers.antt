use Rattle.std.specs.Prelude.{[], refl}
use Rattle.edge_history.specs.History.{of}
use Rattle.edge_history.proofs.Retaining.{events_more}
use Rattle.edge_history.proofs.Made.{paired_from_events}
use Rattle.edge_history.proofs.made_laws.paired_edges_have_events.Goals as goal

pub returns : goal.returns
returns c = λ h real. (
  λ paired. (of h, events_more [] h [] real paired (record { weigh = λ w. refl })),
  λ e. paired_from_events h e.0 real e.1,
)
