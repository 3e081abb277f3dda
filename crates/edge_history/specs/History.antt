-- The events that a list of edges tells of.
use Rattle.std.specs.Prelude.{◌≡◌, ℕ, ◌&&◌, nat_eq, not, Bool, cond, List, [], ◌∷◌, map, filter}
use Rattle.tw_rows.specs.Instant.{inf}
use Rattle.tw_rows.specs.Bag.{SameBag}
use Rattle.tw_rows.specs.Event.{Event, cut}
use Rattle.tw_rows.specs.declared.cells.Datum.{Datum}
use Rattle.tw_rows.specs.declared.edge.Edge.{Edge}
use Rattle.tw_rows.specs.SameCells.{same_cells}
use Rattle.edge_history.specs.Order.{is_end, is_below, failing, IsHistory}

-- an event whose row is a row of cells
abbrev pub CellEvent : Type 0
CellEvent = Event (List Datum)

-- the event of an interval edge, from its sync to its other time; that of a start edge ends at infinity
abbrev pub begun_one : Edge → CellEvent
begun_one e = record { row = e.cells; start = e.sync; end = e.other }

-- the events of the intervals and the starts in a list
abbrev pub begun : List Edge → List CellEvent
begun h = map begun_one (filter (λ e. not (is_end e)) h)

-- an open event of these cells and this start
abbrev pub is_open : List Datum → ℕ → CellEvent → Bool
is_open cells start e = same_cells e.row cells && (nat_eq e.start start && nat_eq e.end inf)

-- an end edge at x.sync ends the first open event of its cells and start. Where the events are [1, inf) and [3, inf) of
-- the same cells, an end edge with sync 7 and other 3 leaves [1, inf) and [3, 7)
abbrev pub ended : Edge → List CellEvent → List CellEvent
ended x [] = []
ended x (e ∷ es) =
    cond (is_open x.cells x.other e) (record { row = e.row; start = e.start; end = x.sync } ∷ es) (e ∷ ended x es)

-- the events once the edge has ended one, if it is an end edge
abbrev pub end_step : Edge → List CellEvent → List CellEvent
end_step x es = cond (is_end x) (ended x es) es

-- the events once each end edge of a list has ended one
abbrev pub end_all : List Edge → List CellEvent → List CellEvent
end_all [] es = es
end_all (x ∷ xs) es = end_all xs (end_step x es)

-- the events of a paired list: each interval and each start edge is an event, and each end edge ends one of them
abbrev pub of : List Edge → List CellEvent
of h = end_all h (begun h)

-- the edges stand for the events below c: they are a history with syncs below c alone, and of their own events the same
-- is known below c as of these. Below 4 a start at 3 stands for the lifetime [3, 5), and below 6 it needs an end at 5
pub record StandsBelow (c : ℕ) (h : List Edge) (events : List CellEvent) : Type 0 where
  pub history : IsHistory h
  pub below : failing (is_below c) h ≡ 0
  pub same : SameBag (cut c (of h)) (cut c events)
