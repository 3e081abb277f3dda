-- Coalesced events: the rows at each instant, put together into events that depend on those rows alone.
use Rattle.std.specs.Prelude.{ℕ, zero, suc, ◌-◌, Bool, cond, List, [], ◌∷◌, ◌++◌, replicate, flat_map}
use Rattle.tw_rows.specs.Instant.{inf}
use Rattle.tw_rows.specs.Bag.{total}
use Rattle.tw_rows.specs.Event.{Event}
use Rattle.key_nodes.specs.Groups.{distinct}

-- how often a row stands in a list. 7 in 7, 4, 7: twice
abbrev pub how_often : {R : Type 0} → (R → R → Bool) → R → List R → ℕ
how_often same r rows = total (λ x. cond (same r x) 1 0) rows

-- the rows just before an instant: none before the first
abbrev pub rows_before : {R : Type 0} → (ℕ → List R) → ℕ → List R
rows_before rows zero = []
rows_before rows (suc t) = rows t

-- the instants below n at which the row comes to stand more often, in order, each as often as that. Of a row that stands
-- once at 1, three times at 2 and not at 3: 1, 2, 2
abbrev pub rise_times : {R : Type 0} → (R → R → Bool) → (ℕ → List R) → R → ℕ → List ℕ
rise_times same rows r zero = []
rise_times same rows r (suc t) =
    rise_times same rows r t ++ replicate (how_often same r (rows t) - how_often same r (rows_before rows t)) t

-- the instants below n at which it comes to stand less often, likewise. Of the same row: 3, 3, 3
abbrev pub fall_times : {R : Type 0} → (R → R → Bool) → (ℕ → List R) → R → ℕ → List ℕ
fall_times same rows r zero = []
fall_times same rows r (suc t) =
    fall_times same rows r t ++ replicate (how_often same r (rows_before rows t) - how_often same r (rows t)) t

-- an event for each start, up to the end that stands at its place, or to infinity where there is none. Of the starts 1, 2
-- and the end 3: [1, 3) and [2, inf)
abbrev pub paired_times : {R : Type 0} → R → List ℕ → List ℕ → List (Event R)
paired_times r [] ends = []
paired_times r (s ∷ starts) [] = record { row = r; start = s; end = inf } ∷ paired_times r starts []
paired_times r (s ∷ starts) (e ∷ ends) = record { row = r; start = s; end = e } ∷ paired_times r starts ends

-- the events of one row by the instants below n: from its j-th rise to its j-th fall
abbrev pub row_events : {R : Type 0} → (R → R → Bool) → (ℕ → List R) → ℕ → R → List (Event R)
row_events same rows n r = paired_times r (rise_times same rows r n) (fall_times same rows r n)

-- the rows of all instants below n
abbrev pub rows_below : {R : Type 0} → (ℕ → List R) → ℕ → List R
rows_below rows zero = []
rows_below rows (suc t) = rows_below rows t ++ rows t

-- the events of all rows by the instants below n
abbrev pub coalesced_below : {R : Type 0} → (R → R → Bool) → (ℕ → List R) → ℕ → List (Event R)
coalesced_below same rows n = flat_map (row_events same rows n) (distinct same (rows_below rows n))

-- the events of all rows. A row over [1, 9) and again over [9, 12) is one event, [1, 12)
abbrev pub coalesced : {R : Type 0} → (R → R → Bool) → (ℕ → List R) → List (Event R)
coalesced same rows = coalesced_below same rows inf
