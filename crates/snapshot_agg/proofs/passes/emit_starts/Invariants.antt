use Rattle.std.proofs.Common.{◌≡◌, take, map, ◌*◌, ◌<◌, List, Option}
use Rattle.std.specs.Prelude.{suc}
use Rattle.tw_rows.specs.Instant.{inf}
use Rattle.tw_rows.specs.SameCells.{same_cells}
use Rattle.tw_rows.specs.declared.cells.Datum.{Datum}
use Rattle.sweep_laws.specs.Sweeps.{InOrder}
use Rattle.sweep_laws.specs.Grouping.{StartsTold}
use Rattle.snapshot_agg.specs.Touching.{edge_of_key}
use Rattle.snapshot_agg.specs.Totaled.{run_of}
use Rattle.snapshot_agg.proofs.passes.emit_starts.Given as goal

abbrev pub invariant-loop-i : goal.invariant-loop-i
invariant-loop-i l = record {
  told : (row : List Datum → Option (List Datum)) → l.rows ≡ map row l.keys →
      StartsTold (λ k. k) same_cells l.t (take l.i (map edge_of_key l.keys)) row (run_of l.fn.running) (run_of l.running) l.fn.answer.items l.answer.items;
  order : l.t < inf → InOrder (suc (2 * l.t)) l.fn.answer.items → InOrder (suc (2 * l.t)) l.answer.items;
}
