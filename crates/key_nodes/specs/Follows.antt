-- Follows: each left row with the next rows of its key on the right, if they start within some time.
use Rattle.std.specs.Prelude.{ℕ, ◌+◌, nat_lt, Bool, cond, not, ◌&&◌, List, [], ◌∷◌, flat_map}
use Rattle.std.specs.List.{list_any}
use Rattle.tw_rows.specs.Instant.{later}
use Rattle.tw_rows.specs.Event.{Event}

-- the right event meets the left one, starts after it, and starts before the time from its start on is over. Within 5 of
-- a left event that starts at 1 start those of its key that start at 2, 3, 4 or 5
abbrev pub starts_within : {L R : Type 0} → (L → R → Bool) → ℕ → Event L → Event R → Bool
starts_within meets within a b = meets a.row b.row && (nat_lt a.start b.start && nat_lt b.start (a.start + within))

-- it does so, and no right event does so at an earlier start
abbrev pub starts_next : {L R : Type 0} → (L → R → Bool) → ℕ → List (Event R) → Event L → Event R → Bool
starts_next meets within rs a b =
    starts_within meets within a b && not (list_any (λ c. starts_within meets within a c && nat_lt c.start b.start) rs)

-- the event of such a pair: from the start of the right event until the time from the start of the left one on is over.
-- Of the starts 1 and 4, within 5: [4, 6)
abbrev pub followed_one : {L R P : Type 0} → (L → R → Bool) → (L → R → P) → ℕ → List (Event R) →
    Event L → Event R → List (Event P)
followed_one meets pair within rs a b = cond (starts_next meets within rs a b)
    (record { row = pair a.row b.row; start = b.start; end = later within a.start } ∷ []) []

-- for each left event one event for each right event of its key that starts next after it, within the time
abbrev pub followed : {L R P : Type 0} → (L → R → Bool) → (L → R → P) → ℕ →
    List (Event L) → List (Event R) → List (Event P)
followed meets pair within ls rs = flat_map (λ a. flat_map (followed_one meets pair within rs a) rs) ls
