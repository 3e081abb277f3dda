use Rattle.tw_rows.specs.Event.{cut}
use Rattle.tw_rows.proofs.Bags.{SameBag-sym}
use Rattle.edge_history.specs.History.{of}
use Rattle.edge_history.proofs.Telling.{told_same}
use Rattle.edge_history.proofs.Standing.{stands_below_same, same_of_both}
use Rattle.edge_history.proofs.standing_laws.standing_depends_on_known_events.Goals as goal

pub returns-clause-stands : goal.returns-clause-stands
returns-clause-stands c = stands_below_same

pub returns-clause-told : goal.returns-clause-told
returns-clause-told c = told_same

pub returns-clause-known : goal.returns-clause-known
returns-clause-known c = same_of_both

pub returns-clause-each : goal.returns-clause-each
returns-clause-each c =
    λ t h other events a b. stands_below_same t h events (of other)
    (SameBag-sym (cut t (of other)) (cut t events) b.same) a
