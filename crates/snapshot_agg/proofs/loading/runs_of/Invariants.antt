use Rattle.std.proofs.Common.{◌≡◌, List, take}
use Rattle.tw_rows.specs.declared.cells.Datum.{Datum}
use Rattle.snapshot_agg.specs.Saving.{run_among}
use Rattle.snapshot_agg.specs.Totaled.{run_of}
use Rattle.snapshot_agg.proofs.loading.runs_of.Given as goal

abbrev pub invariant-loop-start : goal.invariant-loop-start
invariant-loop-start l = (k : List Datum) → run_of l.running k ≡ run_among l.width (take l.start-index l.starts) k
