-- The keys that an instant touched, and what was told of them.
use Rattle.std.specs.Prelude.{◌≡◌, ℕ, ◌≤◌, ◌||◌, true, Option, List, map}
use Rattle.std.specs.List.{list_any}
use Rattle.tw_rows.specs.SameCells.{same_cells}
use Rattle.tw_rows.specs.declared.cells.Datum.{Datum}
use Rattle.tw_rows.specs.declared.edge.Edge.{Edge}
use Rattle.sweep_laws.specs.Running.{Run}
use Rattle.sweep_laws.specs.Grouping.{EndsTold, StartsTold}

-- one key more is touched, which may be one of them. Of 7 and 8, 8 leaves 7 and 8
abbrev pub Touches : List (List Datum) → List (List Datum) → List Datum → Type 0
Touches old new key = (q : List Datum) → list_any (same_cells q) new ≡ (list_any (same_cells q) old || same_cells q key)

-- the key is among those that the instant n touched if its totals carry the number n, and they carry no later one: those of
-- the number 3 at the instant 4 say nothing, and those of the number 4 that the key is there
pub record TellsTouched (instant n : ℕ) (touched : List (List Datum)) (key : List Datum) : Type 0 where
  pub within : instant ≤ n
  pub there : instant ≡ n → list_any (same_cells key) touched ≡ true

-- a key as an edge of that row at the instant 0, so that the passes of a sweep speak of keys too
abbrev pub edge_of_key : List Datum → Edge
edge_of_key k = record { sync = 0; other = 0; cells = k }

-- the ends at t of the keys, where their rows are now those of o; and then the starts. Of the keys 7, 8 and 7, that of 7 is
-- told once
abbrev pub EndsOfKeys : ℕ → List (List Datum) → (List Datum → Option (List Datum)) →
    (List Datum → Option Run) → (List Datum → Option Run) → List Edge → List Edge → Type 0
EndsOfKeys t ks o run0 run1 before after = EndsTold (λ k. k) same_cells t (map edge_of_key ks) o run0 run1 before after

abbrev pub StartsOfKeys : ℕ → List (List Datum) → (List Datum → Option (List Datum)) →
    (List Datum → Option Run) → (List Datum → Option Run) → List Edge → List Edge → Type 0
StartsOfKeys t ks o run0 run1 before after = StartsTold (λ k. k) same_cells t (map edge_of_key ks) o run0 run1 before after
