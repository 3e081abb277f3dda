-- A few plans, worked out.
use Rattle.std.specs.Prelude.{◌≡◌, ℕ, ◌-◌, ◌^◌, nat_lt, pos, negsuc, false, cond, Some, None, List, [], ◌∷◌, refl}
use Rattle.std.proofs.Common.{arith}
use Rattle.tw_rows.specs.Event.{Event}
use Rattle.tw_rows.specs.Instant.{inf}
use Rattle.tw_rows.specs.Rows.{Row}
use Rattle.tw_rows.specs.declared.row.Value.TheVariants.{Int}
use Rattle.plan_model.specs.declared.agg.Agg.TheVariants.{Count, Sum}
use Rattle.plan_model.specs.declared.node.Node.{Node}
use Rattle.plan_model.specs.declared.node.Node.TheVariants.{Source, Select, Union, Delay, Hop, Group, Join, Anti, Follow}
use Rattle.plan_model.specs.Amounts.{most_rows}
use Rattle.plan_model.specs.Meaning.{Sources, events, snapshots}
use Rattle.plan_laws.specs.Times.{TimesUpTo}
use Rattle.plan_laws.specs.Undefined.{undefined_at, first_below, first_undefined, overflow}
use Rattle.plan_laws.specs.Held.{reaching, node_may_hold}
use Rattle.plan_laws.specs.LeftJoin.{filling_items}

pair : ℕ → ℕ → Row
pair k v = Int (pos k) ∷ Int (pos v) ∷ []

event : Row → ℕ → ℕ → Event Row
event row start end = record { row = row; start = start; end = end }

-- stream 0 has (7, 1) over [1, 7), and stream 1 has (7, 2) over [3, 5)
left_and_right : Sources
left_and_right s = cond (nat_lt s 1) (event (pair 7 1) 1 7 ∷ []) (event (pair 7 2) 3 5 ∷ [])

-- the left join of both by their first columns, filled with -1
left_join : List Node
left_join =
    Source 0 ∷ Source 1 ∷ Join 0 1 (0 ∷ []) (0 ∷ []) ∷ Group 1 (0 ∷ []) [] ∷ Anti 0 3 (0 ∷ []) (0 ∷ [])
    ∷ Select 4 (filling_items 2 (Int (negsuc 0) ∷ [])) ∷ Union 2 5 ∷ []

before_the_partner : snapshots left_and_right left_join 6 2 ≡ (Int (pos 7) ∷ Int (pos 1) ∷ Int (negsuc 0) ∷ []) ∷ []
unfolding pair event left_and_right left_join
before_the_partner = refl

beside_the_partner : snapshots left_and_right left_join 6 3 ≡ (Int (pos 7) ∷ Int (pos 1) ∷ Int (pos 2) ∷ []) ∷ []
unfolding pair event left_and_right left_join
beside_the_partner = refl

after_the_partner : snapshots left_and_right left_join 6 5 ≡ (Int (pos 7) ∷ Int (pos 1) ∷ Int (negsuc 0) ∷ []) ∷ []
unfolding pair event left_and_right left_join
after_the_partner = refl

the_first_above_three : first_below (nat_lt 3) 9 ≡ Some 4
the_first_above_three = refl

none_above_three_below_four : first_below (nat_lt 3) 4 ≡ None
none_above_three_below_four = refl

-- two rows of one key, of which the sum is too great where both are alive, over [3, 5); the key 8 has sums of its own
too_great : Sources
too_great s = event (pair 7 (2 ^ 63 - 1)) 1 5 ∷ event (pair 8 9) 0 9 ∷ event (pair 7 1) 3 8 ∷ []

sums : List Node
sums = Source 0 ∷ Group 0 (0 ∷ []) (Count ∷ Sum 1 ∷ []) ∷ []

a_sum_too_great : first_undefined too_great sums 1 9 ≡ Some 3
unfolding pair event too_great sums most_rows
a_sum_too_great = refl

no_sum_too_great_below_three : first_undefined too_great sums 1 3 ≡ None
unfolding pair event too_great sums most_rows
no_sum_too_great_below_three = refl

-- at the punctuation 4 the group is the lowest node that overflows, and at 3 none does
an_overflow : overflow too_great sums 4 ≡ Some (record { node = 1; time = 3 })
unfolding pair event too_great sums most_rows
an_overflow = refl

no_overflow_yet : overflow too_great sums 3 ≡ None
unfolding pair event too_great sums most_rows
no_overflow_yet = refl

a_source_is_never_undefined : undefined_at too_great sums 0 3 ≡ false
unfolding pair event too_great sums most_rows
a_source_is_never_undefined = refl

two_reach_five : reaching 5 (event (pair 7 1) 1 3 ∷ event (pair 7 1) 2 5 ∷ event (pair 7 1) 4 inf ∷ []) ≡ 2
unfolding pair event inf
two_reach_five = refl

-- at the punctuation 5 a row that ends at 5 counts, and one that ended at 3 does not
one_of_two_counts : reaching 5 (left_and_right 1) ≡ 1
unfolding pair event left_and_right
one_of_two_counts = refl

-- the join counts the left row and the right one, four times each; the group of no aggregates likewise
a_join_may_hold : node_may_hold left_and_right left_join 5 2 ≡ 8
unfolding pair event left_and_right left_join inf
a_join_may_hold = refl

a_join_may_hold_less : node_may_hold left_and_right left_join 6 2 ≡ 4
unfolding pair event left_and_right left_join inf
a_join_may_hold_less = refl

-- a count and a sum make it 6 times the three rows
a_group_may_hold : node_may_hold too_great sums 4 1 ≡ 18
unfolding pair event too_great sums inf
a_group_may_hold = refl

-- a hop counts its own events too: of [1, 7), by windows of 10 from multiples of 10 on, [0, 10)
windows : List Node
windows = Source 0 ∷ Hop 0 10 10 ∷ Delay 0 3 ∷ []

a_hop_may_hold : node_may_hold left_and_right windows 8 1 ≡ 8
unfolding pair event left_and_right windows inf
a_hop_may_hold = refl

-- the delay is closed at 10 when its child is at 7, and counts what does not end before 7
a_delay_may_hold : node_may_hold left_and_right windows 7 2 ≡ 4
unfolding pair event left_and_right windows inf
a_delay_may_hold = refl

a_delay_may_hold_nothing : node_may_hold left_and_right windows 8 2 ≡ 0
unfolding pair event left_and_right windows inf
a_delay_may_hold_nothing = refl

-- within 9 of the left row's start at 1 the right one starts at 3: [3, 10). At 6 the left row still may be followed, both of
-- it and of the answer reach 6, and the right row ended
follow : List Node
follow = Source 0 ∷ Source 1 ∷ Follow 0 1 (0 ∷ []) (0 ∷ []) 9 ∷ []

a_follow_may_hold : node_may_hold left_and_right follow 6 2 ≡ 12
unfolding pair event left_and_right follow inf
a_follow_may_hold = refl

-- at 10 nothing may follow any more
a_follow_may_hold_the_answer : node_may_hold left_and_right follow 10 2 ≡ 4
unfolding pair event left_and_right follow inf
a_follow_may_hold_the_answer = refl

-- the last start is at 4, and the last end before infinity at 5
times_up_to_five : TimesUpTo 5 (event (pair 7 1) 3 5 ∷ event (pair 7 2) 4 inf ∷ [])
unfolding event inf
times_up_to_five = (omega arith, λ l. omega arith, (omega arith, λ l. absurd (omega (arith, l)), tt))

-- a hop of size 10 may take them 10 further: [0, 10) of [3, 5), not past 3 + 10
the_hop_is_within_reach : events left_and_right windows 1 ≡ event (pair 7 1) 0 10 ∷ []
unfolding pair event left_and_right windows inf
the_hop_is_within_reach = refl

-- the right rows (7, 2) and (7, 3) give one row of the key 7 alone, with no other column
one_row_a_key : snapshots (λ s. event (pair 7 2) 1 9 ∷ event (pair 7 3) 2 9 ∷ []) left_join 3 4 ≡ (Int (pos 7) ∷ []) ∷ []
unfolding pair event left_join
one_row_a_key = refl

-- so the key 7 of the row (7, 1) has a partner, and the row is paired with both
paired_with_both : snapshots
    (λ s. cond (nat_lt s 1) (event (pair 7 1) 1 9 ∷ event (pair 8 1) 1 9 ∷ []) (event (pair 7 2) 1 9 ∷ event (pair 7 3) 2 9 ∷ []))
    left_join 6 4
    ≡ (Int (pos 7) ∷ Int (pos 1) ∷ Int (pos 2) ∷ []) ∷ (Int (pos 7) ∷ Int (pos 1) ∷ Int (pos 3) ∷ [])
    ∷ (Int (pos 8) ∷ Int (pos 1) ∷ Int (negsuc 0) ∷ []) ∷ []
unfolding pair event left_join
paired_with_both = refl
