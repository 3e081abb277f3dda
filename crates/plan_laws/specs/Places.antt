-- Events and edges whose rows are read through a table of texts.
use Rattle.std.specs.Prelude.{◌≢◌, ℕ, List, All, AllPairs}
use Rattle.tw_rows.specs.Event.{Event}
use Rattle.tw_rows.specs.Rows.{Row}
use Rattle.tw_rows.specs.Cells.{ArePlaced, read_cells}
use Rattle.tw_rows.specs.declared.edge.Edge.{Edge}
use Rattle.edge_history.specs.History.{CellEvent, of}
use Rattle.plan_model.specs.Nodes.{event_to, events_to}

-- no text stands twice in the table
abbrev pub AreDistinct : List (List ℕ) → Type 0
AreDistinct texts = AllPairs (λ a b. a ≢ b) texts

-- the event with each place read as its text. With the texts `a` and `b`, place 1 over [3, 5) is `b` over [3, 5)
abbrev pub read_event : List (List ℕ) → CellEvent → Event Row
read_event texts e = event_to (read_cells texts) e

abbrev pub read_events : List (List ℕ) → List CellEvent → List (Event Row)
read_events texts es = events_to (read_cells texts) es

-- the events of a list of edges, read. Of a start at 3 of the place 0 and its end at 5, with the text `a`: `a` over
-- [3, 5)
abbrev pub read_of : List (List ℕ) → List Edge → List (Event Row)
read_of texts h = read_events texts (of h)

-- each place in the rows of these events is that of a text of the table: with one text, place 0 and no other
abbrev pub EventsArePlaced : List (List ℕ) → List CellEvent → Type 0
EventsArePlaced texts es = All (λ e. ArePlaced texts e.row) es

-- the same of the cells of edges
abbrev pub EdgesArePlaced : List (List ℕ) → List Edge → Type 0
EdgesArePlaced texts h = All (λ e. ArePlaced texts e.cells) h
