-- What is done of the edges that are due.
use Rattle.std.proofs.Common.{◌≡◌, ◌+◌, ◌≤◌, ◌-◌, ℕ, Bool, List, drop, take, length}
use Rattle.tw_rows.specs.Bag.{total}
use Rattle.tw_rows.specs.declared.cells.Datum.{Datum}
use Rattle.tw_rows.specs.declared.edge.HeldRow.{HeldRow}
use Rattle.edge_history.specs.Order.{failing, is_below}
use Rattle.edge_history.specs.History.{CellEvent}
use Rattle.edge_history.specs.Opens.{started_rows}
use Rattle.sweep_laws.specs.Sweeps.{IsDue}
use Rattle.outer_top.specs.TopKeys.{kept_rows}
use Rattle.outer_top.specs.TopLikes.{IsLike}
use Rattle.outer_top.specs.TopEvents.{AreSettled, TopHeld, TopReached}
use Rattle.outer_top.specs.Sweeping.{has_begun}
use Rattle.outer_top.proofs.sweep.sweep.Given as goal

abbrev pub decreases-loop-done : goal.decreases-loop-done
decreases-loop-done l = length l.due - l.done

abbrev pub invariant-loop-done : goal.invariant-loop-done
invariant-loop-done l = record {
  within : l.done ≤ length l.due;
  like : IsLike l.fn.tops l.tops;
  rows : (w : HeldRow → ℕ) → total w (kept_rows l.tops.keys.entries) ≤ total w (kept_rows l.fn.tops.keys.entries) + total w (started_rows (take l.done l.due));
  queues : (to : ℕ) (p : List Datum → Bool) → failing (is_below to) l.due ≡ 0 → failing (λ x. p x.cells) l.due ≡ 0 → failing (λ r. p r.cells) (kept_rows l.fn.tops.keys.entries) ≡ 0 →
      failing (has_begun to p) l.fn.queues ≡ 0 → failing (has_begun to p) l.queues ≡ 0;
  settled : AreSettled l.fn.tops.key.columns l.fn.tops.by l.fn.tops.most l.fn.tops.keys.entries → AreSettled l.fn.tops.key.columns l.fn.tops.by l.fn.tops.most l.tops.keys.entries;
  reached : (a : List CellEvent) (from to : ℕ) → IsDue a from to l.due → TopHeld l.fn.tops.key.columns l.fn.tops.by l.fn.tops.most a from l.fn.tops.keys.entries l.fn.queues →
      (u : ℕ) × TopReached l.fn.tops.key.columns l.fn.tops.by l.fn.tops.most a from u to (drop l.done l.due) l.tops.keys.entries l.queues l.fn.answer.items l.answer.items;
}
