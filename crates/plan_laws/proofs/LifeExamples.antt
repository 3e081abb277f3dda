-- The definitions, worked out on a few edges.
use Rattle.std.specs.Prelude.{◌≡◌, ℕ, ◌-◌, ◌^◌, pos, negsuc, [], ◌∷◌, refl}
use Rattle.tw_rows.specs.Instant.{inf}
use Rattle.tw_rows.specs.declared.cells.Datum.TheVariants.{Int}
use Rattle.tw_rows.specs.declared.edge.Edge.{Edge}
use Rattle.plan_model.specs.declared.node.Node.TheVariants.{Delay, Hop, Duration, Mean}
use Rattle.plan_laws.specs.Answers.{answered, answered_below}
use Rattle.plan_laws.specs.Extending.{extended_edges}

abbrev edge : ℕ → ℕ → Edge
edge sync other = record { sync = sync; other = other; cells = [] }

-- a delay of 2 moves a start at 3 and its end at 5, and passes over what moves to infinity
delay_moves_both_times : answered (Delay 0 2) (edge 3 inf ∷ edge 5 3 ∷ edge (2 ^ 61 - 1) inf ∷ []) ≡ edge 5 inf ∷ edge 7 5 ∷ []
unfolding inf
delay_moves_both_times = refl

-- a hop of size 10 and period 5 makes [10, 20) of a start at 13, and passes over its end
hop_rounds_down : answered (Hop 0 10 5) (edge 13 inf ∷ edge 14 13 ∷ []) ≡ edge 10 20 ∷ []
unfolding inf
hop_rounds_down = refl

-- a duration of 4 makes [3, 7) of the life [3, 5)
duration_lasts : answered (Duration 0 4) (edge 3 5 ∷ []) ≡ edge 3 7 ∷ []
unfolding inf
duration_lasts = refl

-- a hop of period 10 with what is known below 17 carries what comes from 10 on, and a delay what comes from 17 on
hop_carries : answered_below (Hop 0 10 10) 17 ≡ 10
unfolding inf
hop_carries = refl

delay_carries : answered_below (Delay 0 2) 17 ≡ 17
delay_carries = refl

-- a mean divides the sum -3 by the count 2, rounded down, and keeps the times
mean_divides : answered (Mean 0 (0 ∷ [])) (record { sync = 5; other = 3; cells = Int (negsuc 2) ∷ Int (pos 2) ∷ [] } ∷ [])
    ≡ record { sync = 5; other = 3; cells = Int (negsuc 1) ∷ [] } ∷ []
mean_divides = refl

-- an extend of 4 makes [3, 9) of [3, 5), moves an end at 5 to 9, and passes over an end that moves to infinity
extend_moves_ends : extended_edges 4 (edge 3 inf ∷ edge 3 5 ∷ edge 5 3 ∷ edge (2 ^ 61 - 1) 3 ∷ []) ≡ edge 3 inf ∷ edge 3 9 ∷ edge 9 3 ∷ []
unfolding inf
extend_moves_ends = refl
