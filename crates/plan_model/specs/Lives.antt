-- Changes of the lifetimes of events. R is the type of the rows.
use Rattle.std.specs.Prelude.{ℕ, nat_lt, Bool, cond, List, [], flat_map}
use Rattle.tw_rows.specs.Instant.{later, floor_to}
use Rattle.tw_rows.specs.Event.{Event}
use Rattle.key_nodes.specs.Joins.{with_life}
use Rattle.key_nodes.specs.Sessions.{sessions}

-- start and end later by so much: by 2, [3, 5) becomes [5, 7)
abbrev pub moved_one : {R : Type 0} → ℕ → Event R → List (Event R)
moved_one by e = with_life e.row (later by e.start) (later by e.end)

abbrev pub moved : {R : Type 0} → ℕ → List (Event R) → List (Event R)
moved by events = flat_map (moved_one by) events

-- the lifetime starts at the greatest multiple of the period that is not above the start, and lasts for the size. With size 10
-- and period 5, [13, 14) becomes [10, 20)
abbrev pub hopped_one : {R : Type 0} → ℕ → ℕ → Event R → List (Event R)
hopped_one size period e = with_life e.row (floor_to period e.start) (later size (floor_to period e.start))

abbrev pub hopped : {R : Type 0} → ℕ → ℕ → List (Event R) → List (Event R)
hopped size period events = flat_map (hopped_one size period) events

-- the lifetime lasts for so long, whatever its end was: for 4, [3, 5) becomes [3, 7)
abbrev pub lasting_one : {R : Type 0} → ℕ → Event R → List (Event R)
lasting_one by e = with_life e.row e.start (later by e.start)

abbrev pub lasting : {R : Type 0} → ℕ → List (Event R) → List (Event R)
lasting by events = flat_map (lasting_one by) events

-- the end later by so much: by 4, [3, 5) becomes [3, 9), and [3, inf) stays
abbrev pub extended_one : {R : Type 0} → ℕ → Event R → List (Event R)
extended_one by e = with_life e.row e.start (later by e.end)

abbrev pub extended : {R : Type 0} → ℕ → List (Event R) → List (Event R)
extended by events = flat_map (extended_one by) events

-- the end is that of the session of the row's key. For a timeout of 0 it is the start, so that there is no event
abbrev pub in_sessions : {R K : Type 0} → (R → K) → (K → K → Bool) → ℕ → List (Event R) → List (Event R)
in_sessions key same timeout events = cond (nat_lt 0 timeout) (sessions key same timeout events) []
