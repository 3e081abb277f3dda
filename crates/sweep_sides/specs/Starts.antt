-- The starts that edges tell of.
use Rattle.std.specs.Prelude.{ℕ, cond, List, [], ◌∷◌, flat_map, filter}
use Rattle.tw_rows.specs.Instant.{inf}
use Rattle.tw_rows.specs.declared.edge.Edge.{Edge}
use Rattle.edge_history.specs.Order.{is_end, is_from}
use Rattle.edge_history.specs.Opens.{singles, is_start}

-- the start that the edge tells of, without the end: of the interval [3, 5) a start at 3, and of an end none
abbrev pub start_in : Edge → List Edge
start_in e = cond (is_end e) [] (record { sync = e.sync; other = inf; cells = e.cells } ∷ [])

abbrev pub starts_in : List Edge → List Edge
starts_in edges = flat_map start_in edges

-- the starts that edges tell of from a time on. Of an interval [3, 5), a start at 6 and its end at 9, from 4 on: the start at 6
abbrev pub starts_from : ℕ → List Edge → List Edge
starts_from from h = filter is_start (filter (is_from from) (singles h))
