-- The events of edges by balance, where the order of the edges is free: what their ends take back is added on one side,
-- and what all of them give on the other.
use Rattle.std.specs.Prelude.{◌≡◌, ℕ, ◌&&◌, ◌||◌, nat_eq, nat_lt, nat_le, not, Bool, cond}
use Rattle.std.specs.Prelude.{List, [], ◌∷◌, ◌++◌, map, flat_map}
use Rattle.tw_rows.specs.Instant.{inf}
use Rattle.tw_rows.specs.Bag.{SameBag}
use Rattle.tw_rows.specs.Event.{cut}
use Rattle.tw_rows.specs.declared.edge.Edge.{Edge}
use Rattle.edge_history.specs.Order.{is_end, is_below, failing, Rises}
use Rattle.edge_history.specs.History.{CellEvent}

-- the event that an edge gives: an interval's, that of a start, or the one that has now ended
abbrev pub given : Edge → CellEvent
given e = record { row = e.cells; start = cond (is_end e) e.other e.sync; end = cond (is_end e) e.sync e.other }

-- the open event that an end edge takes back
abbrev pub taken : Edge → List CellEvent
taken e = cond (is_end e) (record { row = e.cells; start = e.other; end = inf } ∷ []) []

-- the events are those of the edges: with those that the end edges take back, they are those that the edges give.
-- A start at 3 and its end at 5 give [3, inf) and [3, 5) and take [3, inf) back, which leaves [3, 5)
abbrev pub AreEventsOf : List Edge → List CellEvent → Type 0
AreEventsOf h events = SameBag (events ++ flat_map taken h) (map given h)

-- the same of what is known below c
abbrev pub StandsFor : ℕ → List Edge → List CellEvent → Type 0
StandsFor c h events = SameBag (cut c (events ++ flat_map taken h)) (cut c (map given h))

-- an edge below c that tells of no end from c on, but for an open one
abbrev pub is_settled : ℕ → Edge → Bool
is_settled c e = is_below c e && ((nat_lt e.other c || nat_eq e.other inf) && not (nat_eq e.other e.sync))

-- the edges in order tell of the events what happens below c, and of no end from c on
pub record Told (c : ℕ) (h : List Edge) (events : List CellEvent) : Type 0 where
  pub order : Rises 0 h
  pub settled : failing (is_settled c) h ≡ 0
  pub stands : StandsFor c h events

-- the edge tells of a start or of an end, and not of both
abbrev pub is_single : Edge → Bool
is_single e = is_end e || nat_eq e.other inf

-- the start edge and the end edge of an event
abbrev pub start_edge : CellEvent → Edge
start_edge e = record { sync = e.start; other = inf; cells = e.row }

abbrev pub end_edge : CellEvent → Edge
end_edge e = record { sync = e.end; other = e.start; cells = e.row }

-- the edges that tell of an event what happens from c on and below d: its start, and its end.
-- Of the lifetime [3, 5) from 4 on and below 9: its end at 5
abbrev pub news_of : ℕ → ℕ → CellEvent → List Edge
news_of c d e =
    cond (nat_le c e.start && nat_lt e.start d) (start_edge e ∷ []) []
    ++ cond (nat_le c e.end && nat_lt e.end d) (end_edge e ∷ []) []

abbrev pub news : ℕ → ℕ → List CellEvent → List Edge
news c d events = flat_map (news_of c d) events
