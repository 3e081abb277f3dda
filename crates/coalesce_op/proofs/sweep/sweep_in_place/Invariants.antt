use Rattle.std.proofs.Common.{◌≡◌, ◌+◌, ◌≤◌, ◌-◌, ℕ, List, [], drop, take, length}
use Rattle.tw_rows.specs.Bag.{total}
use Rattle.tw_rows.specs.Event.{alive}
use Rattle.tw_rows.specs.declared.edge.HeldRow.{HeldRow}
use Rattle.edge_history.specs.History.{CellEvent}
use Rattle.edge_history.specs.Opens.{started_rows}
use Rattle.synopsis.specs.Queued.{AreQueues}
use Rattle.sweep_laws.specs.Sweeps.{IsDue}
use Rattle.coalesce_op.specs.Holding.{CoalesceReached}
use Rattle.coalesce_op.proofs.sweep.sweep_in_place.Given as goal

abbrev pub decreases-loop-done : goal.decreases-loop-done
decreases-loop-done l = length l.fn.due - l.done

abbrev pub invariant-loop-done : goal.invariant-loop-done
invariant-loop-done l = record {
  within : l.done ≤ length l.fn.due;
  rest : drop l.done l.due ≡ drop l.done l.fn.due;
  rows : (w : HeldRow → ℕ) → total w l.queues ≤ total w l.fn.queues + total w (started_rows (take l.done l.fn.due));
  reached : (a : List CellEvent) (from to : ℕ) → IsDue a from to l.fn.due → AreQueues (alive a) from l.fn.queues →
      (u : ℕ) × CoalesceReached a from u to (drop l.done l.fn.due) l.queues [] (take l.done l.due);
}
