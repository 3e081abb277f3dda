-- A group on its way from instant to instant: the rows, the run that is open for each key, and what was told.
-- K is the type of keys. `key` gives the key of a row, `same` tells whether two keys are equal, `tell` makes the row of a key
-- from the rows that are alive, and `bad` says of which rows a key's group is undefined.
use Rattle.std.specs.Prelude.{◌≡◌, ℕ, ◌+◌, ◌<◌, ◌≤◌, Bool, true, false, Option, Some, None, List, map, filter}
use Rattle.std.specs.List.{list_any}
use Rattle.tw_rows.specs.Bag.{SameBag, total}
use Rattle.tw_rows.specs.Event.{alive}
use Rattle.tw_rows.specs.SameCells.{same_cells}
use Rattle.tw_rows.specs.declared.cells.Datum.{Datum}
use Rattle.tw_rows.specs.declared.edge.Edge.{Edge}
use Rattle.tw_rows.specs.declared.edge.HeldRow.{HeldRow}
use Rattle.edge_history.specs.Order.{is_from, IsHistory}
use Rattle.edge_history.specs.History.{CellEvent, of}
use Rattle.edge_history.specs.Balance.{Told}
use Rattle.edge_history.specs.Opens.{singles, opens, bare}
use Rattle.key_nodes.specs.Groups.{distinct, has_key, grouped}
use Rattle.sweep_laws.specs.Sweeps.{IsDue, Tells}
use Rattle.sweep_laws.specs.Running.{Run, open_at, end_part, kept, start_part, begun_at}

-- the keys of the edges, as often as they stand there
abbrev pub keys_of : {K : Type 0} → (List Datum → K) → List Edge → List K
keys_of key es = map (λ e. key e.cells) es

-- the row of an open run
abbrev pub row_of_run : Option Run → Option (List Datum)
row_of_run None = None
row_of_run (Some x) = Some x.row

-- the row of a key at an instant
abbrev pub group_at : {K : Type 0} → (K → List (List Datum) → Option (List Datum)) → List CellEvent → K → ℕ → Option (List Datum)
group_at tell a k t = tell k (alive a t)

-- the rows are those that are open just before t, and the run of each key is the one that is open at t
pub record Swept {K : Type 0} (tell : K → List (List Datum) → Option (List Datum)) (a : List CellEvent) (t : ℕ)
    (rows : List HeldRow) (run : K → Option Run) : Type 0 where
  pub alive_rows : SameBag rows (opens t a)
  pub open_runs : (k : K) → run k ≡ open_at (group_at tell a k) t

-- a pass over some edges told of their keys what was due, each by its part, and took a step with the run of each. A key that
-- stands there twice is told once: what is still to be told of all keys goes down by what was told
pub record PassTold {K : Type 0} (key : List Datum → K) (same : K → K → Bool) (step : K → Option Run → Option Run)
    (part : K → Option Run → List Edge) (now : List Edge) (run0 run1 : K → Option Run) (before after : List Edge) : Type 0 where
  pub others : (k : K) → list_any (same k) (keys_of key now) ≡ false → run1 k ≡ run0 k
  pub touched : (k : K) → list_any (same k) (keys_of key now) ≡ true → run1 k ≡ step k (run0 k)
  pub weigh : (w : Edge → ℕ) (ks : List K) →
      ((k : K) → list_any (same k) (keys_of key now) ≡ true → list_any (same k) ks ≡ true) →
      total w after + total (λ k. total w (part k (run1 k))) (distinct same ks)
      ≡ total w before + total (λ k. total w (part k (run0 k))) (distinct same ks)

-- the ends at t, where the rows of the keys are now those of o; and then the starts
abbrev pub EndsTold : {K : Type 0} → (List Datum → K) → (K → K → Bool) → ℕ → List Edge → (K → Option (List Datum)) →
    (K → Option Run) → (K → Option Run) → List Edge → List Edge → Type 0
EndsTold key same t now o run0 run1 before after =
    PassTold key same (λ k x. kept (o k) x) (λ k x. end_part t (o k) x) now run0 run1 before after

abbrev pub StartsTold : {K : Type 0} → (List Datum → K) → (K → K → Bool) → ℕ → List Edge → (K → Option (List Datum)) →
    (K → Option Run) → (K → Option Run) → List Edge → List Edge → Type 0
StartsTold key same t now o run0 run1 before after =
    PassTold key same (λ k x. begun_at t (o k) x) (λ k x. start_part t (o k) x) now run0 run1 before after

-- a run began before t
abbrev pub IsEarly : ℕ → Option Run → Type 0
IsEarly t None = Unit {0}
IsEarly t (Some x) = x.start < t

-- whether a group is undefined depends on the rows of its key alone, in whatever order
abbrev pub DependsOnKey : {K : Type 0} → (List Datum → K) → (K → K → Bool) → (K → List (List Datum) → Bool) → Type 0
DependsOnKey {K} key same bad = (k : K) (xs ys : List (List Datum)) →
    SameBag (filter (has_key key same k) xs) (filter (has_key key same k) ys) → bad k xs ≡ bad k ys

-- just before t: the rows, the open runs, what is told of each key is what it has, and no group is undefined
pub record GroupSweeping {K : Type 0} (tell : K → List (List Datum) → Option (List Datum)) (bad : K → List (List Datum) → Bool)
    (a : List CellEvent) (t : ℕ) (rows : List HeldRow) (run : K → Option Run) : Type 0 where
  pub swept : Swept tell a t rows run
  pub steady : (k : K) → row_of_run (run k) ≡ tell k (bare rows)
  pub fine : (k : K) → bad k (bare rows) ≡ false

-- no group is undefined from one time on and before another
abbrev pub IsDefined : {K : Type 0} → (K → List (List Datum) → Bool) → List CellEvent → ℕ → ℕ → Type 0
IsDefined {K} bad a from to = (k : K) (v : ℕ) → from ≤ v → v < to → bad k (alive a v) ≡ false

-- t is the first instant from one time on and before another at which a group is undefined
pub record IsFirstUndefined {K : Type 0} (bad : K → List (List Datum) → Bool) (a : List CellEvent) (from to t : ℕ) : Type 0 where
  pub low : from ≤ t
  pub high : t < to
  pub found : (k : K) × (bad k (alive a t) ≡ true)
  pub first : IsDefined bad a from t

-- so far: up to u, with these edges left
pub record GroupReached {K : Type 0} (key : List Datum → K) (same : K → K → Bool) (tell : K → List (List Datum) → Option (List Datum))
    (bad : K → List (List Datum) → Bool) (a : List CellEvent) (from u to : ℕ) (rest : List Edge) (rows : List HeldRow)
    (run : K → Option Run) (before after : List Edge) : Type 0 where
  pub low : from ≤ u
  pub left : IsDue a u to rest
  pub now : GroupSweeping tell bad a u rows run
  pub told : Tells (grouped key same same_cells tell a) from u before after
  pub defined : IsDefined bad a from u

-- what a group keeps after the edges came came and out was answered, closed up to `to`: the rest of the edges waits
pub record GroupKeeps {K : Type 0} (key : List Datum → K) (same : K → K → Bool) (tell : K → List (List Datum) → Option (List Datum))
    (bad : K → List (List Datum) → Bool) (rows : List HeldRow) (run : K → Option Run) (waiting : List Edge) (to : ℕ)
    (came out : List Edge) : Type 0 where
  pub history : IsHistory came
  pub waits : SameBag waiting (filter (is_from to) (singles came))
  pub now : GroupSweeping tell bad (of came) to rows run
  pub told : Told to out (grouped key same same_cells tell (of came))
  pub defined : IsDefined bad (of came) 0 to
