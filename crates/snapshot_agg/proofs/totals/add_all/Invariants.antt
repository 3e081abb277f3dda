use Rattle.std.proofs.Common.{List, ◌∷◌}
use Rattle.tw_rows.specs.declared.cells.Datum.{Datum}
use Rattle.plan_model.specs.declared.agg.Agg.{Agg}
use Rattle.snapshot_agg.specs.States.{AreStatesOf}
use Rattle.snapshot_agg.proofs.Kept.{AreMixed}
use Rattle.snapshot_agg.proofs.totals.add_all.Given as goal

abbrev pub invariant-loop-state : goal.invariant-loop-state
invariant-loop-state l = (aggs : List Agg) (rows : List (List Datum)) → AreStatesOf l.fn.states aggs rows →
    AreMixed l.state-index l.states aggs (l.cells ∷ rows) rows
