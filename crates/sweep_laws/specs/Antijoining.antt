-- The open rows of an anti-join, by the time since which a left row meets no right row. `meets` says which rows meet.
use Rattle.std.specs.Prelude.{◌≡◌, ◌⊎◌, ℕ, ◌<◌, ◌≤◌, ◌&&◌, max, nat_lt, nat_le, Bool, true, false, cond, Option, Some, None, is_some, List, [], ◌∷◌}
use Rattle.tw_rows.specs.Instant.{inf}
use Rattle.tw_rows.specs.Bag.{SameBag}
use Rattle.tw_rows.specs.Event.{alive}
use Rattle.tw_rows.specs.declared.cells.Datum.{Datum}
use Rattle.tw_rows.specs.declared.edge.Edge.{Edge}
use Rattle.tw_rows.specs.declared.edge.HeldRow.{HeldRow}
use Rattle.edge_history.specs.History.{CellEvent}
use Rattle.edge_history.specs.Opens.{opens, bare}
use Rattle.key_nodes.specs.Antis.{alone_at, meets_none}
use Rattle.sweep_laws.specs.Running.{Run, open_at}

-- the left row meets no right row that is alive at t: it is free
abbrev pub is_free : (List Datum → List Datum → Bool) → List CellEvent → ℕ → List Datum → Bool
is_free meets b t row = meets_none meets (alive b t) row

-- since when a key is free, after an instant at which it is, or is not: None where it is not
abbrev pub judged : Bool → ℕ → Option ℕ → Option ℕ
judged true t None = Some t
judged true t (Some s) = Some s
judged false t x = None

-- a key that is free since some time at t is so since no later time
abbrev pub IsSince : ℕ → Option ℕ → Type 0
IsSince t None = Unit {0}
IsSince t (Some s) = s ≤ t

-- the same just before t: since an earlier time, or since 0, from which on a key is free that never had a right row
abbrev pub IsAgo : ℕ → Option ℕ → Type 0
IsAgo t None = Unit {0}
IsAgo t (Some s) = (s < t) ⊎ (s ≡ 0)

-- the run of an open left row: from its start, or from the time since which its key is free. Of a row from 3 on: from 5 on
-- where the key is free since 5
abbrev pub run_since : Option ℕ → HeldRow → Option Run
run_since None r = None
run_since (Some s) r = Some (record { row = r.cells; start = max r.start s })

-- the run of a left event that is open just before t
abbrev pub run_of : Option ℕ → ℕ → CellEvent → Option Run
run_of None t e = None
run_of (Some s) t e = cond (nat_lt e.start t && nat_le t e.end) (Some (record { row = e.row; start = max e.start s })) None

-- the status of a key is true to the kept right rows: it is free exactly where a left row of the key meets none of them
abbrev pub IsSteady : {K : Type 0} → (List Datum → K) → (List Datum → List Datum → Bool) → List HeldRow → (K → Option ℕ) → Type 0
IsSteady key meets right status = (row : List Datum) → meets_none meets (bare right) row ≡ is_some (status (key row))

-- just before t: both sides' open rows, the status of each key, and for each left event the run that it gives
pub record Judging {K : Type 0} (key : List Datum → K) (meets : List Datum → List Datum → Bool) (a b : List CellEvent) (t : ℕ)
    (left right : List HeldRow) (status : K → Option ℕ) : Type 0 where
  pub left_rows : SameBag left (opens t a)
  pub right_rows : SameBag right (opens t b)
  pub since : (k : K) → IsAgo t (status k)
  pub steady : IsSteady key meets right status
  pub runs : (e : CellEvent) → open_at (alone_at meets b e) t ≡ run_of (status (key e.row)) t e

-- what is told at t of a row that ends: the end of its run, if it has one
abbrev pub end_of : Option ℕ → ℕ → HeldRow → List Edge
end_of None t r = []
end_of (Some s) t r = record { sync = t; other = max r.start s; cells = r.cells } ∷ []

-- the start of a run, where none was open
abbrev pub start_at : Option ℕ → ℕ → HeldRow → List Edge
start_at (Some s) t r = []
start_at None t r = record { sync = t; other = inf; cells = r.cells } ∷ []

-- the row of an event that began before t and ends after it
abbrev pub stays_of : ℕ → CellEvent → List HeldRow
stays_of t e = cond (nat_lt e.start t && nat_lt t e.end) (record { cells = e.row; start = e.start } ∷ []) []

-- what is told of a row that stays: its run ends where the key is no longer free, and starts where it was not
abbrev pub flip_of : Bool → Option ℕ → ℕ → HeldRow → List Edge
flip_of true st t r = start_at st t r
flip_of false st t r = end_of st t r

-- what is told of a row that starts: a start where its key is free
abbrev pub begin_of : Bool → ℕ → HeldRow → List Edge
begin_of free t r = cond free (record { sync = t; other = inf; cells = r.cells } ∷ []) []

-- of a row that stays, what is told before the starts of the instant, and what is told with them
abbrev pub flip_end : Bool → Option ℕ → ℕ → HeldRow → List Edge
flip_end true st t r = []
flip_end false st t r = end_of st t r

abbrev pub flip_start : Bool → Option ℕ → ℕ → HeldRow → List Edge
flip_start true st t r = start_at st t r
flip_start false st t r = []
