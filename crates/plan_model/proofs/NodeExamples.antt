-- Coalesced rows, averages, tops, followed rows and left joins of a few plans, worked out.
use Rattle.std.specs.Prelude.{◌≡◌, ℕ, zero, suc, ◌+◌, ◌-◌, ◌≤◌, pos, negsuc, ℤ, Bool, true, false, List, [], ◌∷◌, ◌++◌, map, flat_map, replicate, refl}
use Rattle.std.proofs.Common.{◌∙◌, ap, arith, add-zero, add-suc}
use Rattle.std.proofs.lemmas.List.{append-nil}
use Rattle.std.proofs.lemmas.Bool.Decides.{nat_tests}
use Rattle.tw_rows.specs.Event.{Event, alive}
use Rattle.tw_rows.specs.Instant.{inf}
use Rattle.tw_rows.specs.Rows.{Row}
use Rattle.tw_rows.specs.declared.row.Value.TheVariants.{Int, Text}
use Rattle.key_nodes.specs.Coalesced.{how_often, rise_times, fall_times, row_events, rows_below, paired_times, coalesced_below, coalesced}
use Rattle.key_nodes.specs.Groups.{distinct, grouped_rows}
use Rattle.plan_model.specs.declared.agg.Agg.TheVariants.{Count, Sum}
use Rattle.plan_model.specs.declared.expr.ExprNode.TheVariants.{Column, Int as ConstInt}
use Rattle.plan_model.specs.declared.node.Node.{Node}
use Rattle.plan_model.specs.declared.node.Node.TheVariants.{Source, Select, Union, Hop, Duration, Group, Join, Anti, Coalesce, Mean, Top, Follow}
use Rattle.plan_model.specs.Changes.{Line, Started, Ended, changes_at, changes}
use Rattle.plan_model.specs.Groups.{row_of_group}
use Rattle.plan_model.specs.IsPlan.{IsOverEvents}
use Rattle.plan_model.specs.Keys.{rows_equal, value_ops, key_values}
use Rattle.plan_model.specs.Lives.{lasting, hopped}
use Rattle.plan_model.specs.Meaning.{Sources, meaning, snapshots, reads_events}
use Rattle.plan_model.specs.Means.{mean_row}
use Rattle.plan_model.specs.Reach.{event_level, reach}
use Rattle.plan_model.proofs.Steady.{flat_map_same}

-- a text and an int
abbrev row : ℕ → ℤ → Row
row letter v = Text (letter ∷ []) ∷ Int v ∷ []

abbrev event : Row → ℕ → ℕ → Event Row
event r start end = record { row = r; start = start; end = end }

abbrev int_row : ℤ → Row
int_row x = Int x ∷ []

-- every stream has these events
abbrev each : List (Event Row) → Sources
each es stream = es

-- streams 0 and 1
abbrev both : List (Event Row) → List (Event Row) → Sources
both left right zero = left
both left right (suc n) = right

-- the lines of a node at the first dozen of instants
abbrev lines : Sources → List Node → ℕ → List Line
lines source nodes n = changes (snapshots source nodes n) 0 12

-- where there are no rows from an instant on, the coalesced events are those by the instants up to it
module _ {R : Type 0} (same : R → R → Bool) (rows : ℕ → List R) (n : ℕ) (none : (t : ℕ) → n ≤ t → rows t ≡ []) where
  gone : (a b : ℕ) → a ≡ 0 → a - b ≡ 0
  gone a b h = omega (arith, h)

  no_more : (times : List ℕ) (a b t : ℕ) → a ≡ 0 → times ++ replicate (a - b) t ≡ times
  no_more times a b t h = ap (λ m. times ++ replicate m t) (gone a b h) ∙ append-nil times

  rises_settle : (r : R) (d : ℕ) → rise_times same rows r (suc (n + d)) ≡ rise_times same rows r (suc n)
  rises_settle r zero = ap (λ m. rise_times same rows r (suc m)) (add-zero n)
  rises_settle r (suc d) = rw (add-suc n d) (no_more _ _ _ _ (ap (how_often same r) (none (suc (n + d)) (omega arith))) ∙ rises_settle r d)

  falls_settle : (r : R) (d : ℕ) → fall_times same rows r (suc (n + d)) ≡ fall_times same rows r (suc n)
  falls_settle r zero = ap (λ m. fall_times same rows r (suc m)) (add-zero n)
  falls_settle r (suc d) = rw (add-suc n d) (no_more _ _ _ _ (ap (how_often same r) (none (n + d) (omega arith))) ∙ falls_settle r d)

  rows_settle : (d : ℕ) → rows_below rows (suc (n + d)) ≡ rows_below rows (suc n)
  rows_settle zero = ap (λ m. rows_below rows (suc m)) (add-zero n)
  rows_settle (suc d) = rw (add-suc n d) (ap (λ l. rows_below rows (suc (n + d)) ++ l) (none (suc (n + d)) (omega arith)) ∙ (append-nil _ ∙ rows_settle d))

  settled : suc n ≤ inf → coalesced same rows ≡ coalesced_below same rows (suc n)
  settled low =
      let d : ℕ = inf - suc n in
      let whole : inf ≡ suc (n + d) = omega (arith, low) in
      ap (coalesced_below same rows) whole
      ∙ (ap (λ l. flat_map_of (suc (n + d)) (distinct same l)) (rows_settle d)
      ∙ flat_map_same (row_events same rows (suc (n + d))) (row_events same rows (suc n)) (distinct same (rows_below rows (suc n)))
      (λ r. ap (λ l. paired r l (fall_times same rows r (suc (n + d)))) (rises_settle r d) ∙ ap (paired r (rise_times same rows r (suc n))) (falls_settle r d)))
    where
      flat_map_of : ℕ → List R → List (Event R)
      flat_map_of m rs = flat_map (row_events same rows m) rs

      paired : R → List ℕ → List ℕ → List (Event R)
      paired = paired_times

-- the count of rows at each instant, coalesced, over lives of 2. The two rows are equal
abbrev counted : List Node
counted = Source 0 ∷ Group 0 [] (Count ∷ []) ∷ Coalesce 1 ∷ Duration 2 2 ∷ []

abbrev two_lives : List (Event Row)
two_lives = event (row 97 (pos 1)) 1 5 ∷ event (row 97 (pos 1)) 3 8 ∷ []

two_lives_past : (t : ℕ) → 8 ≤ t → alive two_lives t ≡ []
two_lives_past t late = grind (arith, nat_tests)

near : (n : ℕ) → n ≤ 100 → n ≤ inf
unfolding inf
near n low = omega (arith, low)

counts_below : coalesced_below rows_equal (snapshots (each two_lives) counted 1) 9
    ≡ event (int_row (pos 2)) 3 5 ∷ event (int_row (pos 1)) 1 3 ∷ event (int_row (pos 1)) 5 8 ∷ []
counts_below = refl

counts_of_two : coalesced rows_equal (snapshots (each two_lives) counted 1)
    ≡ event (int_row (pos 2)) 3 5 ∷ event (int_row (pos 1)) 1 3 ∷ event (int_row (pos 1)) 5 8 ∷ []
counts_of_two =
    settled rows_equal (snapshots (each two_lives) counted 1) 8
    (λ t late. ap (grouped_rows (key_values []) rows_equal (row_of_group [] (Count ∷ []))) (two_lives_past t late)) (near 9 (omega arith))
    ∙ counts_below

lives_of_two : lasting 2 (event (int_row (pos 2)) 3 5 ∷ event (int_row (pos 1)) 1 3 ∷ event (int_row (pos 1)) 5 8 ∷ [])
    ≡ event (int_row (pos 2)) 3 5 ∷ event (int_row (pos 1)) 1 3 ∷ event (int_row (pos 1)) 5 7 ∷ []
unfolding inf
lives_of_two = refl

coalesced_counts : (meaning (each two_lives) counted 3).events ≡ event (int_row (pos 2)) 3 5 ∷ event (int_row (pos 1)) 1 3 ∷ event (int_row (pos 1)) 5 7 ∷ []
coalesced_counts = ap (lasting 2) counts_of_two ∙ lives_of_two

lines_of_coalesced_counts : lines (each two_lives) counted 3
    ≡ Started 1 (int_row (pos 1)) ∷ Ended 3 1 (int_row (pos 1)) ∷ Started 3 (int_row (pos 2)) ∷ Ended 5 3 (int_row (pos 2))
    ∷ Started 5 (int_row (pos 1)) ∷ Ended 7 5 (int_row (pos 1)) ∷ []
unfolding changes_at changes
lines_of_coalesced_counts = ap (λ es. changes (alive es) 0 12) coalesced_counts

-- lives that touch are one event, and so are in one window only
abbrev touching : List (Event Row)
touching = event (row 97 (pos 1)) 1 9 ∷ event (row 97 (pos 1)) 9 12 ∷ []

touching_past : (t : ℕ) → 12 ≤ t → alive touching t ≡ []
touching_past t late = grind (arith, nat_tests)

touching_below : coalesced_below rows_equal (alive touching) 13 ≡ event (row 97 (pos 1)) 1 12 ∷ []
touching_below = refl

one_window : hopped 10 10 (event (row 97 (pos 1)) 1 12 ∷ []) ≡ event (row 97 (pos 1)) 0 10 ∷ []
unfolding inf
one_window = refl

windows_of_coalesced : (meaning (each touching) (Source 0 ∷ Coalesce 0 ∷ Hop 1 10 10 ∷ []) 2).events ≡ event (row 97 (pos 1)) 0 10 ∷ []
windows_of_coalesced = ap (hopped 10 10) (settled rows_equal (alive touching) 12 touching_past (near 13 (omega arith)) ∙ touching_below) ∙ one_window

windows_of_touching : (meaning (each touching) (Source 0 ∷ Hop 0 10 10 ∷ []) 1).events ≡ event (row 97 (pos 1)) 0 10 ∷ event (row 97 (pos 1)) 0 10 ∷ []
unfolding inf
windows_of_touching = refl

-- the greatest row; rows that tie stay together
lines_of_top : lines (each (event (row 97 (pos 3)) 1 5 ∷ event (row 98 (pos 7)) 3 8 ∷ event (row 99 (pos 7)) 4 6 ∷ [])) (Source 0 ∷ Top 0 [] 1 1 ∷ []) 1
    ≡ Started 1 (row 97 (pos 3)) ∷ Ended 3 1 (row 97 (pos 3)) ∷ Started 3 (row 98 (pos 7)) ∷ Started 4 (row 99 (pos 7))
    ∷ Ended 6 4 (row 99 (pos 7)) ∷ Ended 8 3 (row 98 (pos 7)) ∷ []
unfolding changes_at changes
lines_of_top = refl

-- the greatest of each key, with equal rows: both of the two greatest of `a` are equal, and stay
top_of_each_key : snapshots (each (event (row 97 (pos 3)) 1 5 ∷ event (row 97 (pos 7)) 1 5 ∷ event (row 97 (pos 7)) 1 5 ∷ event (row 98 (negsuc 4)) 1 5 ∷ [])) (Source 0 ∷ Top 0 (0 ∷ []) 1 2 ∷ []) 1 4
    ≡ row 97 (pos 7) ∷ row 97 (pos 7) ∷ row 98 (negsuc 4) ∷ []
top_of_each_key = refl

-- the average of -3 and 0 is -2
abbrev averaged : List Node
averaged = Source 0 ∷ Group 0 [] (Sum 1 ∷ Count ∷ []) ∷ Mean 1 (0 ∷ []) ∷ []

lines_of_average : lines (each (event (row 97 (negsuc 2)) 0 4 ∷ event (row 98 (pos 0)) 2 6 ∷ [])) averaged 2
    ≡ Started 0 (int_row (negsuc 2)) ∷ Ended 2 0 (int_row (negsuc 2)) ∷ Started 2 (int_row (negsuc 1)) ∷ Ended 4 2 (int_row (negsuc 1))
    ∷ Started 4 (int_row (pos 0)) ∷ Ended 6 4 (int_row (pos 0)) ∷ []
unfolding changes_at changes
lines_of_average = refl

-- columns that are not averaged stay, and the count goes
average_beside_a_sum : mean_row value_ops (2 ∷ []) (Text (97 ∷ []) ∷ Int (pos 7) ∷ Int (pos 7) ∷ Int (pos 2) ∷ []) ≡ Text (97 ∷ []) ∷ Int (pos 7) ∷ Int (pos 3) ∷ []
average_beside_a_sum = refl

-- where the last column is below 1 the others stay
average_of_none : mean_row value_ops (0 ∷ []) (Int (pos 7) ∷ Int (pos 0) ∷ []) ≡ Int (pos 7) ∷ []
average_of_none = refl

average_of_no_columns : mean_row value_ops (0 ∷ []) [] ≡ []
average_of_no_columns = refl

-- the rows of the join, and for a left row without a partner that row with -1
abbrev left_joined : List Node
left_joined = Source 0 ∷ Source 1 ∷ Join 0 1 (0 ∷ []) (0 ∷ []) ∷ Group 1 (0 ∷ []) [] ∷ Anti 0 3 (0 ∷ []) (0 ∷ [])
    ∷ Select 4 ((Column 0 ∷ []) ∷ (Column 1 ∷ []) ∷ (ConstInt (negsuc 0) ∷ []) ∷ []) ∷ Union 2 5 ∷ []

abbrev triple : ℕ → ℤ → ℤ → Row
triple letter v w = Text (letter ∷ []) ∷ Int v ∷ Int w ∷ []

lines_of_left_join : lines (both (event (row 97 (pos 1)) 1 7 ∷ []) (event (row 97 (pos 2)) 3 5 ∷ [])) left_joined 6
    ≡ Started 1 (triple 97 (pos 1) (negsuc 0)) ∷ Ended 3 1 (triple 97 (pos 1) (negsuc 0)) ∷ Started 3 (triple 97 (pos 1) (pos 2))
    ∷ Ended 5 3 (triple 97 (pos 1) (pos 2)) ∷ Started 5 (triple 97 (pos 1) (negsuc 0)) ∷ Ended 7 5 (triple 97 (pos 1) (negsuc 0)) ∷ []
unfolding changes_at changes
lines_of_left_join = refl

-- the next right row within 5 of a left one: not one at its own start, not a later one, and none at 15 for 10
abbrev following : List Node
following = Source 0 ∷ Source 1 ∷ Follow 0 1 (0 ∷ []) (0 ∷ []) 5 ∷ []

lines_of_follow : lines (both (event (row 97 (pos 1)) 1 2 ∷ event (row 97 (pos 2)) 10 11 ∷ [])
    (event (row 97 (pos 7)) 1 2 ∷ event (row 97 (pos 8)) 4 5 ∷ event (row 97 (pos 9)) 5 6 ∷ event (row 97 (pos 3)) 15 16 ∷ [])) following 2
    ≡ Started 4 (triple 97 (pos 1) (pos 8)) ∷ Ended 6 4 (triple 97 (pos 1) (pos 8)) ∷ []
unfolding changes_at changes inf
lines_of_follow = refl

-- two right rows at the next start give one event each, and one of another key none; with no key all rows meet
followed_by_two : (meaning (both (event (int_row (pos 1)) 1 2 ∷ []) (event (int_row (pos 8)) 4 5 ∷ event (int_row (pos 8)) 4 9 ∷ [])) (Source 0 ∷ Source 1 ∷ Follow 0 1 [] [] 5 ∷ []) 2).events
    ≡ event (Int (pos 1) ∷ Int (pos 8) ∷ []) 4 6 ∷ event (Int (pos 1) ∷ Int (pos 8) ∷ []) 4 6 ∷ []
unfolding inf
followed_by_two = refl

-- a time past the last instant is infinity
followed_to_the_end : (meaning (both (event (int_row (pos 1)) (inf - 3) inf ∷ []) (event (int_row (pos 8)) (inf - 1) inf ∷ [])) (Source 0 ∷ Source 1 ∷ Follow 0 1 [] [] 5 ∷ []) 2).events
    ≡ event (Int (pos 1) ∷ Int (pos 8) ∷ []) (inf - 1) inf ∷ []
unfolding inf
followed_to_the_end = refl

-- a group has no events, so that a follow over it is none that a plan may have; coalesced it has
levels_of_a_group : map (event_level (Source 0 ∷ Group 0 (0 ∷ []) (Count ∷ []) ∷ Coalesce 1 ∷ Follow 2 0 (0 ∷ []) (0 ∷ []) 5 ∷ [])) (0 ∷ 1 ∷ 2 ∷ 3 ∷ []) ≡ true ∷ false ∷ true ∷ true ∷ []
levels_of_a_group = refl

follows_read_events : reads_events (Follow 1 0 (0 ∷ []) (0 ∷ []) 5) ≡ true
follows_read_events = refl

no_follow_over_a_group : IsOverEvents (Source 0 ∷ Group 0 (0 ∷ []) (Count ∷ []) ∷ []) (Follow 1 0 (0 ∷ []) (0 ∷ []) 5) → ⊥
no_follow_over_a_group h = absurd (let level = h.on_left refl in cc)

reach_of_a_follow : reach following 2 ≡ 5
reach_of_a_follow = refl
