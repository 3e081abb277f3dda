-- The edges before this one have moved their rows.
use Rattle.std.specs.Prelude.{◌≡◌, ℕ, suc, ◌+◌, ◌-◌, ◌*◌, ◌<◌, ◌++◌, List, take, drop, replicate}
use Rattle.tw_rows.specs.Bag.{total}
use Rattle.tw_rows.specs.Instant.{inf}
use Rattle.tw_rows.specs.declared.cells.Datum.{Datum}
use Rattle.tw_rows.specs.declared.edge.Edge.{Edge}
use Rattle.edge_history.specs.Order.{failing, is_end}
use Rattle.sweep_laws.specs.Queues.{queue_ends, queue_starts}
use Rattle.sweep_laws.specs.Sweeps.{InOrder}
use Rattle.synopsis.specs.Kept.{EachIsOpen}
use Rattle.synopsis.specs.Holding.{since_of, AreEarly, AreApart, moves_of}
use Rattle.synopsis.proofs.Telling.{sum_at, net_ends, net_starts}
use Rattle.synopsis.proofs.edges.move_apart.Given as goal

abbrev pub invariant-loop-edge : goal.invariant-loop-edge
invariant-loop-edge l = record {
  since : AreApart l.now → (c : List Datum) → since_of l.held c
      ≡ drop (sum_at net_ends (take l.edge-index (moves_of l.now)) c) (since_of l.fn.held c) ++ replicate (sum_at net_starts (take l.edge-index (moves_of l.now)) c) l.at;
  told : AreApart l.now → (w : Edge → ℕ) → total w l.answer.items
      ≡ total w l.fn.answer.items
      + (total (λ m. total w (queue_ends l.at (m.ends - m.starts) m.cells (since_of l.fn.held m.cells))) (take l.edge-index (moves_of l.now))
      + total (λ m. total w (queue_starts l.at (m.starts - m.ends) m.cells)) (take l.edge-index (moves_of l.now)));
  ends : AreApart l.now → l.at < inf → AreEarly l.at (since_of l.fn.held) → InOrder (2 * l.at) l.fn.answer.items →
      failing is_end (take l.edge-index l.now) ≡ 0 → InOrder (2 * l.at) l.answer.items;
  order : AreApart l.now → l.at < inf → AreEarly l.at (since_of l.fn.held) → InOrder (2 * l.at) l.fn.answer.items → InOrder (suc (2 * l.at)) l.answer.items;
  filled : EachIsOpen l.fn.held.starts → EachIsOpen l.held.starts;
}
