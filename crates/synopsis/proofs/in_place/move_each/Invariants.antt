-- The edges before this one have moved their rows, and tell it.
use Rattle.std.specs.Prelude.{◌≡◌, ℕ, suc, ◌+◌, ◌-◌, ◌*◌, ◌<◌, ◌++◌, List, take, drop, replicate}
use Rattle.tw_rows.specs.Bag.{total}
use Rattle.tw_rows.specs.Instant.{inf}
use Rattle.tw_rows.specs.declared.cells.Datum.{Datum}
use Rattle.tw_rows.specs.declared.edge.Edge.{Edge}
use Rattle.edge_history.specs.Order.{failing, is_end}
use Rattle.sweep_laws.specs.Queues.{queue_ends, queue_starts}
use Rattle.sweep_laws.specs.Sweeps.{InOrder}
use Rattle.synopsis.specs.Kept.{EachIsOpen}
use Rattle.synopsis.specs.Holding.{since_of, AreEarly, AreApart, HaveStarts, moves_of}
use Rattle.synopsis.proofs.Telling.{sum_at, net_ends, net_starts}
use Rattle.synopsis.proofs.in_place.move_each.Given as goal

abbrev pub invariant-loop-i : goal.invariant-loop-i
invariant-loop-i l = record {
  rest : drop l.i l.now ≡ drop l.i l.fn.now;
  since : AreApart l.fn.now → (c : List Datum) → since_of l.held c
      ≡ drop (sum_at net_ends (take l.i (moves_of l.fn.now)) c) (since_of l.fn.held c) ++ replicate (sum_at net_starts (take l.i (moves_of l.fn.now)) c) l.at;
  told : AreApart l.fn.now → HaveStarts (since_of l.fn.held) l.fn.now → (w : Edge → ℕ) → total w (take l.i l.now)
      ≡ total (λ m. total w (queue_ends l.at (m.ends - m.starts) m.cells (since_of l.fn.held m.cells))) (take l.i (moves_of l.fn.now))
      + total (λ m. total w (queue_starts l.at (m.starts - m.ends) m.cells)) (take l.i (moves_of l.fn.now));
  ends : AreApart l.fn.now → HaveStarts (since_of l.fn.held) l.fn.now → l.at < inf → AreEarly l.at (since_of l.fn.held) →
      failing is_end (take l.i l.fn.now) ≡ 0 → InOrder (2 * l.at) (take l.i l.now);
  order : AreApart l.fn.now → HaveStarts (since_of l.fn.held) l.fn.now → l.at < inf → AreEarly l.at (since_of l.fn.held) → InOrder (suc (2 * l.at)) (take l.i l.now);
  filled : EachIsOpen l.fn.held.starts → EachIsOpen l.held.starts;
}
