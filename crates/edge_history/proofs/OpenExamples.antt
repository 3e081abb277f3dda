-- What is open, single edges and ends told ahead, worked out on a few edges.
use Rattle.std.specs.Prelude.{◌≡◌, ℕ, pos, List, [], ◌∷◌, filter, refl}
use Rattle.std.proofs.Common.{arith}
use Rattle.tw_rows.specs.Instant.{inf}
use Rattle.tw_rows.specs.declared.cells.Datum.{Datum}
use Rattle.tw_rows.specs.declared.cells.Datum.TheVariants.{Int}
use Rattle.tw_rows.specs.declared.edge.Edge.{Edge}
use Rattle.tw_rows.specs.declared.edge.HeldRow.{HeldRow}
use Rattle.edge_history.specs.Order.{is_from}
use Rattle.edge_history.specs.History.{CellEvent}
use Rattle.edge_history.specs.Balance.{news}
use Rattle.edge_history.specs.Opens.{singles, opens, ended_rows, started_rows}
use Rattle.edge_history.specs.Ahead.{ToldAhead}

abbrev one : List Datum
one = Int (pos 1) ∷ []

abbrev two : List Datum
two = Int (pos 2) ∷ []

abbrev edge : List Datum → ℕ → ℕ → Edge
edge cells sync other = record { sync = sync; other = other; cells = cells }

abbrev held : List Datum → ℕ → HeldRow
held cells start = record { cells = cells; start = start }

-- the lives [3, 5) and [4, inf)
abbrev lives : List CellEvent
lives = record { row = one; start = 3; end = 5 } ∷ record { row = two; start = 4; end = inf } ∷ []

-- a row is open from just after its start to just before its end, that instant among them
open_at_first : opens 3 lives ≡ []
unfolding inf
open_at_first = refl

open_at_the_end : opens 5 lives ≡ held one 3 ∷ held two 4 ∷ []
unfolding inf
open_at_the_end = refl

open_after_the_end : opens 6 lives ≡ held two 4 ∷ []
unfolding inf
open_after_the_end = refl

-- the edges of an instant take rows out and put rows in
news_of_four : started_rows (news 4 5 lives) ≡ held two 4 ∷ []
unfolding inf
news_of_four = refl

news_of_five : ended_rows (news 5 6 lives) ≡ held one 3 ∷ []
unfolding inf
news_of_five = refl

-- an interval is two single edges, other edges are themselves
singles_of_all : singles (edge one 3 9 ∷ edge two 4 inf ∷ edge two 9 4 ∷ []) ≡ edge one 3 inf ∷ edge one 9 3 ∷ edge two 4 inf ∷ edge two 9 4 ∷ []
unfolding inf
singles_of_all = refl

-- below 5 an interval from 3 to 9 tells the start at 3, and the end at 9 ahead
told_ahead_of_it : filter (is_from 5) (singles (edge one 3 9 ∷ [])) ≡ edge one 9 3 ∷ []
unfolding inf
told_ahead_of_it = refl

an_interval_tells_ahead : ToldAhead 5 (edge one 3 9 ∷ []) (record { row = one; start = 3; end = 9 } ∷ [])
unfolding inf
an_interval_tells_ahead = record { order = (omega arith, tt); real = refl; below = refl; told = record { weigh = λ w. refl }; ahead = λ w. omega arith }

-- of a life with no end an interval tells an end that is none of it
a_wrong_end_ahead : ¬ (ToldAhead 5 (edge one 3 9 ∷ []) (record { row = one; start = 3; end = inf } ∷ []))
unfolding inf
a_wrong_end_ahead t = let a = t.ahead (λ e. 1) in absurd (omega (arith, a))
