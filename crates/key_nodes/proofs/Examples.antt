-- A few events, worked out.
use Rattle.std.specs.Prelude.{◌≡◌, ℕ, nat_eq, nat_lt, cond, Option, Some, None, List, [], ◌∷◌, filter, refl}
use Rattle.std.proofs.Common.{ap}
use Rattle.std.proofs.lemmas.Bool.{eqb-true, eq-eqb}
use Rattle.tw_rows.specs.Bag.{total}
use Rattle.tw_rows.specs.Event.{Event, alive}
use Rattle.tw_rows.specs.Instant.{inf}
use Rattle.key_nodes.specs.Runs.{Tells, runs}
use Rattle.key_nodes.specs.Groups.{has_key, IsGroupRow, grouped_rows}
use Rattle.key_nodes.specs.Antis.{alone_at, alone_rows}
use Rattle.key_nodes.specs.Sessions.{sessions}
use Rattle.key_nodes.specs.Clips.{clipped}
use Rattle.key_nodes.specs.Shards.{of_shard, over_shards}
use Rattle.key_nodes.proofs.Grouping.{group_row_of}

-- rows are numbers, and each is its own key
abbrev self : ℕ → ℕ
self k = k

abbrev pub event : ℕ → ℕ → ℕ → Event ℕ
event row start end = record { row = row; start = start; end = end }

-- how many rows there are, if any
abbrev pub number : List ℕ → Option ℕ
number rows = let n = total (λ r. 1) rows in cond (nat_lt 0 n) (Some n) None

-- how many rows the key has
abbrev counted : ℕ → List ℕ → Option ℕ
counted k rows = number (filter (has_key self nat_eq k) rows)

tells_numbers : Tells nat_eq
tells_numbers x y = (eqb-true x y, eq-eqb x y)

a_count_is_a_group_row : IsGroupRow self nat_eq counted
a_count_is_a_group_row =
    group_row_of self nat_eq (λ k. number) (λ k xs ys h. ap (λ n. cond (nat_lt 0 n) (Some n) None) (h.weigh (λ r. 1)))
    (λ k. refl)

-- two rows of the key 7, [1, 5) and [3, 8), counted below 10. The latest run stands first
a_count_in_runs : runs nat_eq (λ t. counted 7 (alive (event 7 1 5 ∷ event 7 3 8 ∷ event 4 2 9 ∷ []) t)) 10
    ≡ event 1 5 8 ∷ event 2 3 5 ∷ event 1 1 3 ∷ []
a_count_in_runs = refl

a_row_for_each_key : grouped_rows self nat_eq counted (7 ∷ 4 ∷ 7 ∷ []) ≡ 1 ∷ 2 ∷ []
a_row_for_each_key = refl

no_rows_no_groups : grouped_rows self nat_eq counted [] ≡ []
no_rows_no_groups = refl

a_run_has_the_last_instant : runs nat_eq (λ t. cond (nat_lt 3 t) (Some 7) None) 6 ≡ event 7 4 6 ∷ []
a_run_has_the_last_instant = refl

other_rows_are_other_runs : runs nat_eq (λ t. Some (cond (nat_lt t 2) 7 5)) 4 ≡ event 5 2 4 ∷ event 7 0 2 ∷ []
other_rows_are_other_runs = refl

-- the life [2, 9) without [4, 6) and [6, 8)
alone_between_partners : runs nat_eq (alone_at nat_eq (event 7 4 6 ∷ event 7 6 8 ∷ event 4 0 9 ∷ []) (event 7 2 9)) 12
    ≡ event 7 8 9 ∷ event 7 2 4 ∷ []
alone_between_partners = refl

rows_that_meet_none : alone_rows nat_eq (7 ∷ 4 ∷ 7 ∷ 5 ∷ []) (4 ∷ 6 ∷ []) ≡ 7 ∷ 7 ∷ 5 ∷ []
rows_that_meet_none = refl

-- a start at 9 is not strictly between 4 and 9, so the session that starts at 1 ends there
a_pause_of_the_timeout_ends : sessions self nat_eq 5 (event 7 1 2 ∷ event 7 4 30 ∷ event 7 9 10 ∷ event 4 6 7 ∷ [])
    ≡ event 7 1 9 ∷ event 7 4 9 ∷ event 7 9 14 ∷ event 4 6 11 ∷ []
unfolding inf
a_pause_of_the_timeout_ends = refl

-- only a start after the event's own clips it, and only one of its key
clipped_at_the_next_start : clipped nat_eq (event 7 3 20 ∷ event 4 3 20 ∷ [])
    (event 7 3 5 ∷ event 7 12 13 ∷ event 7 8 9 ∷ []) ≡ event 7 3 8 ∷ event 4 3 20 ∷ []
clipped_at_the_next_start = refl

-- the key 7 in the one shard and the key 4 in the other
sessions_of_two_shards : over_shards
    (λ s. sessions self nat_eq 5
    (of_shard (λ k. cond (nat_eq k 7) 1 0) s (event 7 1 2 ∷ event 4 6 7 ∷ event 7 4 30 ∷ []))) 2
    ≡ event 4 6 11 ∷ event 7 1 9 ∷ event 7 4 9 ∷ []
unfolding inf
sessions_of_two_shards = refl
