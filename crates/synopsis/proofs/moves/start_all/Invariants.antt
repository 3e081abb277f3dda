-- The loop invariants and measures of moves::start_all.
use Rattle.std.specs.Prelude.{◌≡◌, ℕ, suc, ◌+◌, ◌-◌, ◌*◌, ◌<◌, ◌++◌, List, take, replicate}
use Rattle.tw_rows.specs.Bag.{total}
use Rattle.tw_rows.specs.Instant.{inf}
use Rattle.tw_rows.specs.declared.cells.Datum.{Datum}
use Rattle.tw_rows.specs.declared.edge.Edge.{Edge}
use Rattle.sweep_laws.specs.Queues.{queue_starts}
use Rattle.sweep_laws.specs.Sweeps.{InOrder}
use Rattle.synopsis.specs.Kept.{EachIsOpen}
use Rattle.synopsis.specs.Holding.{since_of}
use Rattle.synopsis.proofs.Telling.{sum_at, net_starts}
use Rattle.synopsis.proofs.moves.start_all.Given as goal

abbrev pub invariant-loop-moved : goal.invariant-loop-moved
invariant-loop-moved l = record {
  since : (c : List Datum) → since_of l.held c ≡ since_of l.fn.held c ++ replicate (sum_at net_starts (take l.moved-index l.moves) c) l.at;
  told : (w : Edge → ℕ) → total w l.answer.items
      ≡ total w l.fn.answer.items + total (λ m. total w (queue_starts l.at (m.starts - m.ends) m.cells)) (take l.moved-index l.moves);
  order : l.at < inf → InOrder (suc (2 * l.at)) l.fn.answer.items → InOrder (suc (2 * l.at)) l.answer.items;
  filled : EachIsOpen l.fn.held.starts → EachIsOpen l.held.starts;
}
