use Rattle.std.proofs.Common.{List, ◌∷◌}
use Rattle.tw_rows.specs.Bag.{SameBag}
use Rattle.tw_rows.specs.declared.cells.Datum.{Datum}
use Rattle.plan_model.specs.declared.agg.Agg.{Agg}
use Rattle.snapshot_agg.specs.States.{AreStatesOf}
use Rattle.snapshot_agg.proofs.Kept.{AreMixed}
use Rattle.snapshot_agg.proofs.totals.remove_all.Given as goal

abbrev pub invariant-loop-state : goal.invariant-loop-state
invariant-loop-state l = (aggs : List Agg) (rows rest : List (List Datum)) → AreStatesOf l.fn.states aggs rows → SameBag rows (l.cells ∷ rest) →
    AreMixed l.state-index l.states aggs rest rows
