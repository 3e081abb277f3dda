-- Changes of lives, pairs of events and keys, worked out on a few.
use Rattle.std.specs.Prelude.{◌≡◌, ◌-◌, pos, ℕ, ◌+◌, nat_eq, [], ◌∷◌, refl}
use Rattle.tw_rows.specs.Event.{Event}
use Rattle.tw_rows.specs.Instant.{inf}
use Rattle.tw_rows.specs.Rows.{Row}
use Rattle.tw_rows.specs.declared.row.Value.TheVariants.{Int}
use Rattle.plan_model.specs.Lives.{moved, hopped, lasting, extended}
use Rattle.key_nodes.specs.Joins.{joined_rows, joined}
use Rattle.plan_model.specs.Keys.{key_values, outside_key, paired_row}

-- the events of these examples have a number as their row
abbrev event : ℕ → ℕ → ℕ → Event ℕ
event row start end = record { row = row; start = start; end = end }

-- a life without end stays so, and one that would start at infinity is none
moved_by_two : moved 2 (event 7 3 5 ∷ event 8 4 inf ∷ event 9 (inf - 2) inf ∷ []) ≡ event 7 5 7 ∷ event 8 6 inf ∷ []
unfolding inf
moved_by_two = refl

hops_of_ten_by_five : hopped 10 5 (event 7 13 14 ∷ event 8 10 99 ∷ event 9 4 5 ∷ []) ≡ event 7 10 20 ∷ event 8 10 20 ∷ event 9 0 10 ∷ []
unfolding inf
hops_of_ten_by_five = refl

lasting_four : lasting 4 (event 7 3 5 ∷ event 8 3 99 ∷ event 9 (inf - 2) inf ∷ []) ≡ event 7 3 7 ∷ event 8 3 7 ∷ event 9 (inf - 2) inf ∷ []
unfolding inf
lasting_four = refl

extended_by_four : extended 4 (event 7 3 5 ∷ event 8 3 inf ∷ []) ≡ event 7 3 9 ∷ event 8 3 inf ∷ []
unfolding inf
extended_by_four = refl

-- 7 meets 7 from 3 on, and no life of 8 meets one of 8
lives_that_meet : joined nat_eq (λ a b. a + b) (event 7 1 5 ∷ event 8 1 3 ∷ []) (event 7 3 8 ∷ event 8 3 8 ∷ []) ≡ event 14 3 5 ∷ []
lives_that_meet = refl

rows_that_meet : joined_rows nat_eq (λ a b. a + b) (1 ∷ 2 ∷ []) (2 ∷ 2 ∷ []) ≡ 4 ∷ 4 ∷ []
rows_that_meet = refl

abbrev ints : ℕ → ℕ → ℕ → Row
ints a b c = Int (pos a) ∷ Int (pos b) ∷ Int (pos c) ∷ []

the_columns_of_a_key : key_values (2 ∷ 0 ∷ []) (ints 5 6 7) ≡ Int (pos 7) ∷ Int (pos 5) ∷ []
the_columns_of_a_key = refl

the_columns_outside_a_key : outside_key (1 ∷ []) (ints 5 6 7) ≡ Int (pos 5) ∷ Int (pos 7) ∷ []
the_columns_outside_a_key = refl

a_pair_of_rows : paired_row (0 ∷ 2 ∷ []) (ints 1 2 3) (ints 4 5 6) ≡ Int (pos 1) ∷ Int (pos 2) ∷ Int (pos 3) ∷ Int (pos 5) ∷ []
a_pair_of_rows = refl
