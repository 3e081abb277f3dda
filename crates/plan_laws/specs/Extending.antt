-- What an Extend answers, and what its operator keeps.
use Rattle.std.specs.Prelude.{◌≡◌, ℕ, ◌||◌, ◌&&◌, nat_lt, not, Bool, cond, List, ◌++◌, map, filter}
use Rattle.tw_rows.specs.Instant.{inf, later}
use Rattle.tw_rows.specs.Bag.{SameBag}
use Rattle.tw_rows.specs.declared.edge.Edge.{Edge}
use Rattle.edge_history.specs.Order.{is_end, failing, is_below, is_from}
use Rattle.edge_history.specs.Opens.{is_start}
use Rattle.plan_laws.specs.Sides.{KeepsSides}

-- the edge that is made of an edge: its end comes later. For 4, the interval edge from 3 to 5 becomes one from 3 to 9, and an
-- end at 5 one at 9
abbrev pub extended_edge : ℕ → Edge → Edge
extended_edge by e = record { sync = cond (is_end e) (later by e.sync) e.sync; other = cond (is_end e) e.other (later by e.other); cells = e.cells }

-- an edge is made of it: it is no end, or the end stays finite
abbrev pub is_extended : ℕ → Edge → Bool
is_extended by e = not (is_end e) || nat_lt (later by e.sync) inf

-- the edges that are made of edges, of their starts and intervals alone, and of their ends alone
abbrev pub extended_edges : ℕ → List Edge → List Edge
extended_edges by h = map (extended_edge by) (filter (is_extended by) h)

abbrev pub extended_starts : ℕ → List Edge → List Edge
extended_starts by h = map (extended_edge by) (filter is_start h)

abbrev pub extended_ends : ℕ → List Edge → List Edge
extended_ends by h = map (extended_edge by) (filter (λ e. is_end e && nat_lt (later by e.sync) inf) h)

-- of the edges that came in, on the left below x, edges have been made of those below x: what came early enough has been
-- answered, and the rest waits for its times; the others are carried. Of an Extend of 4, closed up to 7, an end at 5 waits as
-- one at 9, and a start at 7 is carried
pub record KeepsExtended (by : ℕ) (texts : List (List ℕ)) (x y : ℕ) (carried waiting left right out : List Edge) : Type 0 where
  pub sides : KeepsSides texts x y x left right out
  pub late : failing (is_from x) waiting ≡ 0
  pub made : SameBag (out ++ waiting) (extended_edges by (filter (is_below x) left))
  pub waits : SameBag carried (filter (is_from x) left)
