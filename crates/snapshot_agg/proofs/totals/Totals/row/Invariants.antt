use Rattle.std.proofs.Common.{List}
use Rattle.tw_rows.specs.declared.cells.Datum.{Datum}
use Rattle.plan_model.specs.declared.agg.Agg.{Agg}
use Rattle.snapshot_agg.specs.States.{IsTotals}
use Rattle.snapshot_agg.proofs.Kept.{RowSoFar}
use Rattle.snapshot_agg.proofs.totals.Totals.row.Given as goal

abbrev pub invariant-loop-state : goal.invariant-loop-state
invariant-loop-state l = (aggs : List Agg) (rows : List (List Datum)) → IsTotals l.self.count l.self.states.items aggs rows →
    RowSoFar l.key aggs l.state-index l.data.items rows
