-- Lists of edges that are made of others row by row, and the events that go with them.
use Rattle.std.specs.Prelude.{Bool, List, map, filter}
use Rattle.tw_rows.specs.declared.cells.Datum.{Datum}
use Rattle.tw_rows.specs.declared.edge.Edge.{Edge}
use Rattle.edge_history.specs.History.{CellEvent}

-- the edges, and the events, whose rows pass a test
abbrev pub edges_where : (List Datum → Bool) → List Edge → List Edge
edges_where test h = filter (λ e. test e.cells) h

abbrev pub events_where : (List Datum → Bool) → List CellEvent → List CellEvent
events_where test events = filter (λ e. test e.row) events

-- the edges, and the events, with each row replaced
abbrev pub edge_with : (List Datum → List Datum) → Edge → Edge
edge_with f e = record { sync = e.sync; other = e.other; cells = f e.cells }

abbrev pub event_with : (List Datum → List Datum) → CellEvent → CellEvent
event_with f e = record { row = f e.row; start = e.start; end = e.end }

abbrev pub edges_with : (List Datum → List Datum) → List Edge → List Edge
edges_with f h = map (edge_with f) h

abbrev pub events_with : (List Datum → List Datum) → List CellEvent → List CellEvent
events_with f events = map (event_with f) events
