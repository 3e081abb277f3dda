-- Pairs of rows that meet, and of events whose rows and lifetimes meet. L and R are the types of the left and of the right rows,
-- and P is the type of the rows that their pairs make.
use Rattle.std.specs.Prelude.{ℕ, min, max, nat_lt, Bool, cond, List, [], ◌∷◌, flat_map}
use Rattle.tw_rows.specs.Event.{Event}

-- the row over the life [start, end), and no event where that lifetime is empty. As no lifetime ends after infinity, there is
-- none that would start at infinity
abbrev pub with_life : {R : Type 0} → R → ℕ → ℕ → List (Event R)
with_life row start end = cond (nat_lt start end) (record { row = row; start = start; end = end } ∷ []) []

-- the row of a pair, if its two rows meet
abbrev pub joined_row : {L R P : Type 0} → (L → R → Bool) → (L → R → P) → L → R → List P
joined_row meets pair a b = cond (meets a b) (pair a b ∷ []) []

-- the rows of all pairs that meet. Of 1, 2 and 2, 2, paired by a + b where the two are equal: 4, 4
abbrev pub joined_rows : {L R P : Type 0} → (L → R → Bool) → (L → R → P) → List L → List R → List P
joined_rows meets pair ls rs = flat_map (λ a. flat_map (joined_row meets pair a) rs) ls

-- the event of a pair, if its two rows meet: over the instants at which both are alive, if there are any. For [1, 5) and
-- [3, 8) it is [3, 5)
abbrev pub joined_one : {L R P : Type 0} → (L → R → Bool) → (L → R → P) → Event L → Event R → List (Event P)
joined_one meets pair a b =
    cond (meets a.row b.row) (with_life (pair a.row b.row) (max a.start b.start) (min a.end b.end)) []

-- the events of all pairs that meet
abbrev pub joined : {L R P : Type 0} → (L → R → Bool) → (L → R → P) → List (Event L) → List (Event R) → List (Event P)
joined meets pair ls rs = flat_map (λ a. flat_map (joined_one meets pair a) rs) ls
