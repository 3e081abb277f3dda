-- What a group may answer: edges in order that are stored as the columns of its rows are.
use Rattle.std.specs.Prelude.{◌≡◌, ℕ, ◌*◌, ◌<◌, ◌&&◌, Bool, true, Option, Some, List, ◌++◌, map}
use Rattle.tw_rows.specs.declared.cells.Datum.{Datum}
use Rattle.tw_rows.specs.declared.edge.Edge.{Edge}
use Rattle.tw_rows.specs.declared.kind.CellKind.{CellKind}
use Rattle.tw_rows.specs.declared.kind.CellKind.TheVariants.{Whole}
use Rattle.edge_history.specs.Order.{failing, is_real, is_from, is_below}
use Rattle.plan_model.specs.declared.agg.Agg.{Agg}
use Rattle.plan_model.specs.IsPlan.{key_kinds}
use Rattle.sweep_laws.specs.Sweeps.{InOrder}
use Rattle.sweep_laws.specs.Running.{Run}
use Rattle.sweep_laws.specs.Saving.{store_all}

-- how the columns of a group's rows are stored, by those of its child: the key columns, and a whole number for each
-- aggregate. Of the columns text and int, the key column 0 and a count: a place and a whole number
abbrev pub group_kinds : List ℕ → List Agg → List CellKind → List CellKind
group_kinds key aggs left = key_kinds left key ++ map (λ a. Whole) aggs

-- columns of these kinds store the cells of the edge: those of a whole number and a bit store 7, true
abbrev pub is_stored : List CellKind → Edge → Bool
is_stored kinds e = store_all kinds e.cells

-- the edge is real, comes from one time on and before another, and is stored so
abbrev pub is_answered : List CellKind → ℕ → ℕ → Edge → Bool
is_answered kinds from to e = is_real e && (is_from from e && (is_below to e && is_stored kinds e))

-- the run began before t, and its row is stored so
pub record IsRunOf (kinds : List CellKind) (t : ℕ) (x : Run) : Type 0 where
  pub early : x.start < t
  pub stored : store_all kinds x.row ≡ true

abbrev pub AreRunsOf : List CellKind → ℕ → (List Datum → Option Run) → Type 0
AreRunsOf kinds t run = (k : List Datum) (x : Run) → run k ≡ Some x → IsRunOf kinds t x

-- an answer so far, up to u: the open runs, and edges in order
pub record IsSoFar (kinds : List CellKind) (from u to : ℕ) (run : List Datum → Option Run) (answer : List Edge) : Type 0 where
  pub runs : AreRunsOf kinds u run
  pub order : InOrder (2 * u) answer
  pub answered : failing (is_answered kinds from to) answer ≡ 0
