use Rattle.std.proofs.Common.{◌≡◌, ◌≤◌, ◌+◌, ◌-◌, ℕ, List, [], drop, length}
use Rattle.tw_rows.specs.SameCells.{same_cells}
use Rattle.edge_history.specs.History.{CellEvent}
use Rattle.sweep_laws.specs.Sweeps.{IsDue}
use Rattle.sweep_laws.specs.Grouping.{GroupReached}
use Rattle.tw_rows.specs.Instant.{inf}
use Rattle.tw_rows.specs.declared.kind.CellKind.{CellKind}
use Rattle.edge_history.specs.Order.{failing, is_below, Rises}
use Rattle.edge_history.specs.Opens.{started_rows}
use Rattle.tw_rows.specs.Bag.{total}
use Rattle.tw_rows.specs.declared.edge.HeldRow.{HeldRow}
use Rattle.snapshot_agg.specs.Answering.{is_stored}
use Rattle.snapshot_agg.specs.Counting.{IsCounted, AreSwept, AreEmitted, kinds_over}
use Rattle.snapshot_agg.proofs.Answering.{Going}
use Rattle.snapshot_agg.specs.Words.{key_data, tell, bad}
use Rattle.snapshot_agg.specs.Totaled.{run_of}
use Rattle.snapshot_agg.proofs.sweep.sweep_due.Given as goal

abbrev pub decreases-loop-done : goal.decreases-loop-done
decreases-loop-done l = length l.fn.due - l.done

abbrev pub invariant-loop-done : goal.invariant-loop-done
invariant-loop-done l = record {
  within : l.done ≤ length l.fn.due;
  rest : drop l.done l.due ≡ drop l.done l.fn.due;
  counted : IsCounted l.groups;
  settled : l.groups.rows.rows.ends ≡ [];
  reached : (a : List CellEvent) (to : ℕ) → IsDue a l.fn.from to l.fn.due →
      AreSwept l.fn.groups a l.fn.from l.fn.groups.rows.rows.held l.fn.running →
      (u : ℕ) × GroupReached (key_data l.fn.groups.key.items) same_cells (tell l.fn.groups.key.items l.fn.groups.aggs.items) (bad l.fn.groups.key.items l.fn.groups.aggs.items)
      a l.fn.from u to (drop l.done l.fn.due) l.groups.rows.rows.held (run_of l.running) l.fn.answer.items l.answer.items;
  so_far : (left : List CellKind) (lo to : ℕ) → lo ≤ l.fn.from → l.fn.from ≤ to → to ≤ inf → failing (is_stored left) l.fn.due ≡ 0 → failing (is_below to) l.fn.due ≡ 0 → Rises 0 l.fn.due →
      AreEmitted l.fn.groups left lo l.fn.from to l.fn.running l.fn.answer.items →
      Going (kinds_over l.fn.groups left) lo to (drop l.done l.fn.due) (run_of l.running) l.answer.items;
  fewer : (w : HeldRow → ℕ) → total w l.groups.rows.rows.held + total w (started_rows (drop l.done l.fn.due)) ≤ total w l.fn.groups.rows.rows.held + total w (started_rows l.fn.due);
  same_key : l.groups.key ≡ l.fn.groups.key;
  same_aggs : l.groups.aggs ≡ l.fn.groups.aggs;
}
