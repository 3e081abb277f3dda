-- The run that is open at a time, and what is told of a change of the row there.
use Rattle.std.specs.Prelude.{ℕ, nat_eq, Bool, false, cond, Option, Some, None, List, [], ◌∷◌}
use Rattle.tw_rows.specs.Instant.{inf}
use Rattle.tw_rows.specs.declared.cells.Datum.{Datum}
use Rattle.tw_rows.specs.declared.edge.Edge.{Edge}
use Rattle.tw_rows.specs.SameCells.{same_cells}
use Rattle.edge_history.specs.History.{CellEvent}
use Rattle.key_nodes.specs.Runs.{runs}

-- a run whose end is not known yet
pub record Run : Type 0 where
  pub row : List Datum
  pub start : ℕ

-- the latest of the runs, if it ends at t
abbrev pub last_run : ℕ → List CellEvent → Option Run
last_run t [] = None
last_run t (e ∷ es) = cond (nat_eq e.end t) (Some (record { row = e.row; start = e.start })) None

-- the run of the rows below t that goes on up to t
abbrev pub open_at : (ℕ → Option (List Datum)) → ℕ → Option Run
open_at f t = last_run t (runs same_cells f t)

abbrev pub run_end : ℕ → Run → Edge
run_end t x = record { sync = t; other = x.start; cells = x.row }

abbrev pub run_start : ℕ → List Datum → Edge
run_start t r = record { sync = t; other = inf; cells = r }

-- the row is there
abbrev pub has_row : Option (List Datum) → List Datum → Bool
has_row None r = false
has_row (Some s) r = same_cells r s

-- the ends told at t, where x was open and the row is now o, and the run that is open then
abbrev pub end_part : ℕ → Option (List Datum) → Option Run → List Edge
end_part t o None = []
end_part t o (Some x) = cond (has_row o x.row) [] (run_end t x ∷ [])

abbrev pub kept : Option (List Datum) → Option Run → Option Run
kept o None = None
kept o (Some x) = cond (has_row o x.row) (Some x) None

-- the starts told after these ends, and the run that is open then
abbrev pub start_part : ℕ → Option (List Datum) → Option Run → List Edge
start_part t o (Some x) = []
start_part t None None = []
start_part t (Some r) None = run_start t r ∷ []

abbrev pub begun_at : ℕ → Option (List Datum) → Option Run → Option Run
begun_at t o (Some x) = Some x
begun_at t None None = None
begun_at t (Some r) None = Some (record { row = r; start = t })

-- both together
abbrev pub tells : ℕ → Option (List Datum) → Option Run → List Edge
tells t None None = []
tells t None (Some x) = run_end t x ∷ []
tells t (Some r) None = run_start t r ∷ []
tells t (Some r) (Some x) = cond (same_cells x.row r) [] (run_end t x ∷ run_start t r ∷ [])

abbrev pub goes : ℕ → Option (List Datum) → Option Run → Option Run
goes t None x = None
goes t (Some r) None = Some (record { row = r; start = t })
goes t (Some r) (Some x) = cond (same_cells x.row r) (Some x) (Some (record { row = r; start = t }))
