-- The totals of all keys.
use Rattle.std.specs.Prelude.{◌≡◌, ℕ, ◌≤◌, cond, Option, None, Some, List, [], Vec}
use Rattle.indexmap.specs.IndexMap.{IndexMap, get, get_by}
use Rattle.tw_rows.specs.SameCells.{same_cells}
use Rattle.tw_rows.specs.declared.cells.Datum.{Datum}
use Rattle.tw_rows.specs.declared.edge.HeldRow.{HeldRow}
use Rattle.edge_history.specs.Opens.{bare}
use Rattle.plan_laws.specs.Keeping.{plain_cells}
use Rattle.plan_model.specs.declared.agg.Agg.{Agg}
use Rattle.plan_model.specs.RowOps.{rows_of_key_in}
use Rattle.sweep_laws.specs.Running.{Run}
use Rattle.snapshot_agg.specs.declared.totals.Totals.{Totals}
use Rattle.snapshot_agg.specs.States.{IsTotals}
use Rattle.snapshot_agg.specs.Touching.{TellsTouched}

-- they are totals of the rows: how many there are, and a state of each aggregate
abbrev pub AreTotalsOf : Totals → List Agg → List (List Datum) → Type 0
AreTotalsOf t aggs rows = IsTotals t.count t.states.items aggs rows

-- a key has totals of its rows, and none where it has no row
abbrev pub IsTotalOf : Option Totals → List Agg → List (List Datum) → Type 0
IsTotalOf None aggs rows = rows ≡ []
IsTotalOf (Some t) aggs rows = AreTotalsOf t aggs rows × (1 ≤ t.count)

-- the number that the totals of a key carry tells whether the instant n touched the key, if it has totals
abbrev pub TellTouched : Option Totals → ℕ → List (List Datum) → List Datum → Type 0
TellTouched None n touched key = Unit {0}
TellTouched (Some t) n touched key = TellsTouched t.instant n touched key

-- the totals of the key with these data. Of the keys 7 and 8, those of 8
abbrev pub totals_of : {S T : Type 0} → IndexMap (Vec Datum S) Totals T → List Datum → Option Totals
totals_of totals k = get_by (λ x. same_cells k x.items) totals

pub record Totaled {S T : Type 0} (key : List ℕ) (aggs : List Agg) (rows : List HeldRow) (totals : IndexMap (Vec Datum S) Totals T) : Type 0 where
  pub of_key : (k : List Datum) → IsTotalOf (totals_of totals k) aggs (rows_of_key_in plain_cells key k (bare rows))

-- the run that is open for a key
abbrev pub run_from : Option HeldRow → Option Run
run_from None = None
run_from (Some r) = Some (record { row = r.cells; start = r.start })

abbrev pub run_of : {S : Type 0} → IndexMap (List Datum) HeldRow S → List Datum → Option Run
run_of running k = run_from (get same_cells running k)

-- one key has another run now
abbrev pub Reruns : {S : Type 0} → IndexMap (List Datum) HeldRow S → IndexMap (List Datum) HeldRow S → List Datum → Option Run → Type 0
Reruns old new key run = (k : List Datum) → run_of new k ≡ cond (same_cells key k) run (run_of old k)
