-- The open starts of the rows of coalesced events: for each row a queue, of which the first start is the first to end.
use Rattle.std.specs.Prelude.{◌≡◌, ℕ, zero, suc, ◌+◌, ◌-◌, Bool, List, [], ◌++◌, take, drop, replicate, map}
use Rattle.tw_rows.specs.Instant.{inf}
use Rattle.tw_rows.specs.declared.cells.Datum.{Datum}
use Rattle.tw_rows.specs.declared.edge.Edge.{Edge}
use Rattle.tw_rows.specs.declared.edge.HeldRow.{HeldRow}
use Rattle.key_nodes.specs.Coalesced.{how_often, rows_before}

abbrev pub Cells : Type 0
Cells = List Datum

-- by how much a row comes to stand more often at t, and less often: one of the two is 0
abbrev pub rise : (Cells → Cells → Bool) → (ℕ → List Cells) → Cells → ℕ → ℕ
rise same f r t = how_often same r (f t) - how_often same r (rows_before f t)

abbrev pub fall : (Cells → Cells → Bool) → (ℕ → List Cells) → Cells → ℕ → ℕ
fall same f r t = how_often same r (rows_before f t) - how_often same r (f t)

-- the starts of a row that have no end before t. Of a row that stands once at 1, three times at 2 and once at 3: just before
-- 3 they are 1, 2, 2, and just before 4 the last 2
abbrev pub open_starts : (Cells → Cells → Bool) → (ℕ → List Cells) → Cells → ℕ → List ℕ
open_starts same f r zero = []
open_starts same f r (suc t) = drop (fall same f r t) (open_starts same f r t) ++ replicate (rise same f r t) t

-- a row with each of these starts
abbrev pub held_with : Cells → List ℕ → List HeldRow
held_with r starts = map (λ s. record { cells = r; start = s }) starts

-- the edges that end the first n of its starts at t, and that start it n times
abbrev pub queue_ends : ℕ → ℕ → Cells → List ℕ → List Edge
queue_ends t n r since = map (λ s. record { sync = t; other = s; cells = r }) (take n since)

abbrev pub queue_starts : ℕ → ℕ → Cells → List Edge
queue_starts t n r = replicate n (record { sync = t; other = inf; cells = r })

-- so often each row ends and starts at t, as it may be counted edge by edge: the sum of both is right, and an end that meets a
-- start of the same row shows nothing
abbrev pub AreMoves : (Cells → Cells → Bool) → (ℕ → List Cells) → ℕ → (Cells → ℕ) → (Cells → ℕ) → Type 0
AreMoves same f t ends starts = (r : Cells) → how_often same r (f t) + ends r ≡ how_often same r (rows_before f t) + starts r

-- what is told of a row
abbrev pub queue_told : ℕ → (Cells → ℕ) → (Cells → ℕ) → (Cells → List ℕ) → Cells → List Edge
queue_told t ends starts since r = queue_ends t (ends r - starts r) r (since r) ++ queue_starts t (starts r - ends r) r

abbrev pub queue_after : ℕ → (Cells → ℕ) → (Cells → ℕ) → (Cells → List ℕ) → Cells → List ℕ
queue_after t ends starts since r = drop (ends r - starts r) (since r) ++ replicate (starts r - ends r) t
