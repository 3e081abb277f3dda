-- The loop invariants and measures of moves::end_all.
use Rattle.std.specs.Prelude.{◌≡◌, ℕ, ◌+◌, ◌-◌, ◌*◌, List, take, drop}
use Rattle.tw_rows.specs.Bag.{total}
use Rattle.tw_rows.specs.declared.cells.Datum.{Datum}
use Rattle.tw_rows.specs.declared.edge.Edge.{Edge}
use Rattle.sweep_laws.specs.Queues.{queue_ends}
use Rattle.sweep_laws.specs.Sweeps.{InOrder}
use Rattle.synopsis.specs.Kept.{EachIsOpen, AreOnce}
use Rattle.synopsis.specs.Holding.{since_of, AreEarly}
use Rattle.synopsis.proofs.Telling.{sum_at, net_ends}
use Rattle.synopsis.proofs.moves.end_all.Given as goal

abbrev pub invariant-loop-moved : goal.invariant-loop-moved
invariant-loop-moved l = record {
  since : (c : List Datum) → since_of l.held c ≡ drop (sum_at net_ends (take l.moved-index l.moves) c) (since_of l.fn.held c);
  told : AreOnce l.moves → (w : Edge → ℕ) → total w l.answer.items
      ≡ total w l.fn.answer.items + total (λ m. total w (queue_ends l.at (m.ends - m.starts) m.cells (since_of l.fn.held m.cells))) (take l.moved-index l.moves);
  order : AreEarly l.at (since_of l.fn.held) → InOrder (2 * l.at) l.fn.answer.items → InOrder (2 * l.at) l.answer.items;
  filled : EachIsOpen l.fn.held.starts → EachIsOpen l.held.starts;
}
