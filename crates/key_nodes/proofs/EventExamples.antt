-- Coalesced events, tops, followed events and pairs, worked out.
use Rattle.std.specs.Prelude.{◌≡◌, ◌+◌, ◌-◌, ◌/◌, ◌^◌, nat_eq, nat_lt, pos, true, cond, [], ◌∷◌, refl}
use Rattle.tw_rows.specs.Event.{alive}
use Rattle.tw_rows.specs.Instant.{inf}
use Rattle.key_nodes.specs.Groups.{grouped_rows}
use Rattle.key_nodes.specs.Coalesced.{rise_times, fall_times, coalesced_below}
use Rattle.key_nodes.specs.Tops.{top_rows}
use Rattle.key_nodes.specs.Follows.{followed}
use Rattle.key_nodes.specs.Joins.{joined_rows, joined}
use Rattle.key_nodes.proofs.Examples.{event, number}

-- lives that touch are one event: [1, 9) and [9, 12), and another row beside them
touching_lives : coalesced_below nat_eq (alive (event 7 1 9 ∷ event 4 3 5 ∷ event 7 9 12 ∷ [])) 13
    ≡ event 4 3 5 ∷ event 7 1 12 ∷ []
touching_lives = refl

-- equal rows: the first end goes with the first start, whatever lives the rows had. [1, 9) and [3, 5) give [1, 5), [3, 9)
first_end_with_first_start : coalesced_below nat_eq (alive (event 7 1 9 ∷ event 7 3 5 ∷ [])) 10
    ≡ event 7 1 5 ∷ event 7 3 9 ∷ []
first_end_with_first_start = refl

-- a row that ends where two equal ones start rises by one
two_for_one : rise_times nat_eq (alive (event 7 1 3 ∷ event 7 3 6 ∷ event 7 3 8 ∷ [])) 7 9 ≡ 1 ∷ 3 ∷ []
two_for_one = refl

the_falls : fall_times nat_eq (alive (event 7 1 3 ∷ event 7 3 6 ∷ event 7 3 8 ∷ [])) 7 9 ≡ 6 ∷ 8 ∷ []
the_falls = refl

-- a row of the first instant is one that rose there, and what does not end is open
from_the_first_instant : coalesced_below nat_eq (alive (event 7 0 20 ∷ [])) 10 ≡ event 7 0 inf ∷ []
from_the_first_instant = refl

-- the number of rows alive, of the lives [1, 5) and [3, 8)
coalesced_counts : coalesced_below nat_eq
    (λ t. grouped_rows (λ r. 0) nat_eq (λ k. number) (alive (event 7 1 5 ∷ event 4 3 8 ∷ []) t)) 9
    ≡ event 2 3 5 ∷ event 1 1 3 ∷ event 1 5 8 ∷ []
coalesced_counts = refl

no_rows : coalesced_below nat_eq (λ t. []) 5 ≡ []
no_rows = refl

-- rows that tie stay together, also where they are more than the count
ties_stay : top_rows (λ a b. true) pos 1 (7 ∷ 3 ∷ 7 ∷ 5 ∷ []) ≡ 7 ∷ 7 ∷ []
ties_stay = refl

-- two rows are greater than 5, so it is not among the greatest two
ties_count_each : top_rows (λ a b. true) pos 2 (7 ∷ 3 ∷ 7 ∷ 5 ∷ []) ≡ 7 ∷ 7 ∷ []
ties_count_each = refl

a_third_place : top_rows (λ a b. true) pos 3 (7 ∷ 3 ∷ 7 ∷ 5 ∷ []) ≡ 7 ∷ 7 ∷ 5 ∷ []
a_third_place = refl

-- the keys are the numbers below 4 and the others
the_greatest_of_each_key : top_rows (λ a b. nat_eq (cond (nat_lt a 4) 0 1) (cond (nat_lt b 4) 0 1)) pos 1
    (7 ∷ 3 ∷ 2 ∷ 5 ∷ []) ≡ 7 ∷ 3 ∷ []
the_greatest_of_each_key = refl

no_places : top_rows (λ a b. true) pos 0 (7 ∷ 3 ∷ []) ≡ []
no_places = refl

-- a start at 1 is not after 1, and the start at 5 is not the next one; the start at 15 is not before 10 + 5
followed_within_five : followed nat_eq (λ a b. a + b) 5 (event 7 1 2 ∷ event 7 10 11 ∷ [])
    (event 7 1 2 ∷ event 7 4 5 ∷ event 7 5 6 ∷ event 7 15 16 ∷ []) ≡ event 14 4 6 ∷ []
unfolding inf
followed_within_five = refl

-- each right event of the next start, and no event of another key
followed_by_two : followed nat_eq (λ a b. a + b) 5 (event 7 1 2 ∷ [])
    (event 7 4 5 ∷ event 4 2 9 ∷ event 7 4 30 ∷ []) ≡ event 14 4 6 ∷ event 14 4 6 ∷ []
unfolding inf
followed_by_two = refl

pairs_that_meet : joined nat_eq (λ a b. a + b) (event 7 1 5 ∷ event 4 1 3 ∷ []) (event 7 3 8 ∷ event 4 3 8 ∷ [])
    ≡ event 14 3 5 ∷ []
pairs_that_meet = refl

-- rows of one pair: the lives meet at 3 and 4 alone
pairs_over_the_meeting : joined nat_eq (λ a b. a + b) (event 7 1 5 ∷ []) (event 7 3 8 ∷ event 7 0 2 ∷ []) ≡ event 14 3 5 ∷ event 14 1 2 ∷ []
pairs_over_the_meeting = refl

-- lives that touch meet at no instant
no_pairs_of_touching_lives : joined nat_eq (λ a b. a + b) (event 7 1 3 ∷ []) (event 7 3 8 ∷ []) ≡ []
no_pairs_of_touching_lives = refl

-- two equal rows on each side are four pairs
equal_rows_are_pairs_each : joined_rows nat_eq (λ a b. a + b) (7 ∷ 7 ∷ 4 ∷ []) (7 ∷ 5 ∷ 7 ∷ []) ≡ 14 ∷ 14 ∷ 14 ∷ 14 ∷ []
equal_rows_are_pairs_each = refl

-- where all rows meet, as with no key column, the next start is that of any row
followed_without_a_key : followed (λ a b. true) (λ a b. a + b) 5 (event 7 1 2 ∷ [])
    (event 4 3 9 ∷ event 7 2 30 ∷ []) ≡ event 14 2 6 ∷ []
unfolding inf
followed_without_a_key = refl

-- a time that passes the last instant ends at infinity
followed_to_infinity : followed nat_eq (λ a b. a + b) 5 (event 7 (2 ^ 61 - 3) inf ∷ [])
    (event 7 (2 ^ 61 - 1) inf ∷ []) ≡ event 14 (2 ^ 61 - 1) inf ∷ []
unfolding inf
followed_to_infinity = refl

-- the rows 31, 72 and 73 with their tens as values: while 72 and 73 are there they tie, and both stay
tops_with_ties : coalesced_below nat_eq
    (λ t. top_rows (λ a b. true) (λ r. pos (r / 10)) 1 (alive (event 31 1 5 ∷ event 72 3 8 ∷ event 73 4 6 ∷ []) t)) 9
    ≡ event 31 1 3 ∷ event 73 4 6 ∷ event 72 3 8 ∷ []
tops_with_ties = refl
