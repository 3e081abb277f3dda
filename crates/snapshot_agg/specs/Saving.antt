-- What the operator of a Group saves: rows that are alive, pending edges, and rows that were emitted, each as an edge.
use Rattle.std.specs.Prelude.{◌≡◌, ℕ, ◌≤◌, true, cond, Option, Some, None, List, [], ◌∷◌, map, take, length, All}
use Rattle.tw_rows.specs.Cells.{datum_kind}
use Rattle.tw_rows.specs.Instant.{inf}
use Rattle.tw_rows.specs.SameCells.{same_cells}
use Rattle.tw_rows.specs.declared.cells.Datum.{Datum}
use Rattle.tw_rows.specs.declared.edge.Edge.{Edge}
use Rattle.tw_rows.specs.declared.kind.CellKind.{CellKind}
use Rattle.edge_history.specs.Order.{IsHistory}
use Rattle.edge_stream.specs.declared.saved.SavedEntry.{SavedEntry}
use Rattle.plan_laws.specs.Places.{EdgesArePlaced}
use Rattle.plan_model.specs.declared.agg.Agg.{Agg}
use Rattle.sweep_laws.specs.Running.{Run}
use Rattle.sweep_laws.specs.Grouping.{GroupKeeps}
use Rattle.sweep_laws.specs.Saving.{rows_of, are_row_starts, may_all_wait}
use Rattle.edge_stream.specs.Entries.{part_of, are_of_parts}
use Rattle.snapshot_agg.specs.Words.{key_data, tell, bad}

-- the later of two runs, if there is one
abbrev pub later_run : Option Run → Option Run → Option Run
later_run (Some x) o = Some x
later_run None o = o

-- the run of a key among starts of rows whose first n data are their key: the last start with that key. With n = 1, of starts
-- of (7, 2) at 3 and (8, 1) at 4, the run of 7 is (7, 2) since 3
abbrev pub run_among : ℕ → List Edge → List Datum → Option Run
run_among n [] k = None
run_among n (e ∷ es) k = later_run (run_among n es k) (cond (same_cells (take n e.cells) k) (Some (record { row = e.cells; start = e.sync })) None)

-- the entries of the part 0 are rows of the child that began before a time, as their starts, those of 1 single edges of the
-- child that wait from it on, and those of 2 emitted rows of the group that began before it, as their starts. Closed up to 7,
-- a row may have begun at 6 and none at 7, and an edge may wait for 7 and none for 6. There are no entries of other parts
pub record GroupSound (left kinds : List CellKind) (x : ℕ) (entries : List SavedEntry) : Type 0 where
  pub parts : are_of_parts 3 entries ≡ true
  pub rows : are_row_starts left x (part_of 0 entries) ≡ true
  pub waiting : may_all_wait left x (part_of 1 entries) ≡ true
  pub told : are_row_starts kinds x (part_of 2 entries) ≡ true

-- the entries are what is kept after the edges came in and were answered
pub record GroupResumes (left kinds : List CellKind) (key : List ℕ) (aggs : List Agg) (texts : List (List ℕ)) (x : ℕ)
    (entries : List SavedEntry) (came right out : List Edge) : Type 0 where
  pub sound : GroupSound left kinds x entries
  pub group : GroupKeeps (key_data key) same_cells (tell key aggs) (bad key aggs) (rows_of (part_of 0 entries))
      (run_among (length key) (part_of 2 entries)) (part_of 1 entries) x came out
  pub low : x ≤ inf
  pub left_placed : EdgesArePlaced texts came
  pub left_cells : All (λ e. map datum_kind e.cells ≡ left) came
  pub right_history : IsHistory right
  pub right_placed : EdgesArePlaced texts right
