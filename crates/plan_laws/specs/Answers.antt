-- What a Delay, a Hop, a Duration and a Mean answer, edge by edge.
use Rattle.std.specs.Prelude.{ℕ, nat_lt, not, ◌&&◌, Bool, true, false, List, map, filter}
use Rattle.tw_rows.specs.Instant.{inf, later, floor_to}
use Rattle.tw_rows.specs.declared.cells.Datum.{Datum}
use Rattle.tw_rows.specs.declared.edge.Edge.{Edge}
use Rattle.edge_history.specs.Order.{is_end, is_below, is_from}
use Rattle.plan_model.specs.declared.node.Node.{Node}
use Rattle.plan_model.specs.declared.node.Node.TheVariants.{Delay, Hop, Duration, Mean}
use Rattle.plan_model.specs.Means.{mean_row}
use Rattle.plan_laws.specs.Keeping.{plain_cells}

-- a Delay, a Hop, a Duration or a Mean: what such a node makes of a lifetime is known at its start
abbrev pub has_known_lives : Node → Bool
has_known_lives (Delay of by) = true
has_known_lives (Hop of size period) = true
has_known_lives (Duration of by) = true
has_known_lives (Mean of at) = true
has_known_lives n = false

-- the start of the new lifetime, from that of the old one. A hop of period 10 makes 10 of 17
abbrev pub new_start : Node → ℕ → ℕ
new_start (Delay of by) t = later by t
new_start (Hop of size period) t = floor_to period t
new_start n t = t

-- the other time of the edge that is answered, from both times of the edge that came: a Delay moves it, a Mean keeps it, and
-- the others make it the end of the new lifetime, which they know
abbrev pub new_other : Node → ℕ → ℕ → ℕ
new_other (Delay of by) t other = later by other
new_other (Hop of size period) t other = later size (floor_to period t)
new_other (Duration of by) t other = later by t
new_other n t other = other

-- the cells of the edge that is answered: a Mean changes them, and keeps the times. Of the sum 7 and the count 2 it makes 3
abbrev pub new_cells : Node → List Datum → List Datum
new_cells (Mean of at) cells = mean_row plain_cells at cells
new_cells n cells = cells

-- the edge that is answered. A Duration of 4 answers the interval edge from 3 to 7 of a start at 3
abbrev pub new_edge : Node → Edge → Edge
new_edge n e = record { sync = new_start n e.sync; other = new_other n e.sync e.other; cells = new_cells n e.cells }

-- an edge is answered: by a Delay where it does not move to infinity, by a Mean always, and by the others where it is no end
-- and the new lifetime is not empty
abbrev pub is_answered : Node → Edge → Bool
is_answered (Delay of by) e = nat_lt (later by e.sync) inf
is_answered (Hop of size period) e = not (is_end e) && nat_lt (floor_to period e.sync) (later size (floor_to period e.sync))
is_answered (Duration of by) e = not (is_end e) && nat_lt e.sync (later by e.sync)
is_answered (Mean of at) e = true
is_answered n e = false

-- the edges that are answered of edges that came, in their order
abbrev pub answered : Node → List Edge → List Edge
answered n h = map (new_edge n) (filter (is_answered n) h)

-- the time below which edges have been answered, if what came is known below x. Others are carried: of a hop of period 10,
-- with what is known below 17, those from 10 on
abbrev pub answered_below : Node → ℕ → ℕ
answered_below (Hop of size period) x = floor_to period x
answered_below n x = x

-- what is answered and what is carried of edges, if what came is known below x
abbrev pub answered_at : Node → ℕ → List Edge → List Edge
answered_at n x h = answered n (filter (is_below (answered_below n x)) h)

abbrev pub carried_at : Node → ℕ → List Edge → List Edge
carried_at n x h = filter (is_from (answered_below n x)) h
