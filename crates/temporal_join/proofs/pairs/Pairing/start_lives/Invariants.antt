-- The edges from this one on are as they came.
use Rattle.std.proofs.Common.{◌≡◌, not, take, drop}
use Rattle.edge_history.specs.Order.{failing}
use Rattle.temporal_join.specs.Lives.{ends_at}
use Rattle.temporal_join.specs.Pairing.{StartsTold}
use Rattle.temporal_join.proofs.pairs.Pairing.start_lives.Given as goal

abbrev pub invariant-loop-edge : goal.invariant-loop-edge
invariant-loop-edge l = record {
  rest : drop l.edge-index l.now ≡ drop l.edge-index l.fn.now;
  told : StartsTold l.self l.fn.own l.own l.others (take l.edge-index l.fn.now) l.fn.answer.items l.answer.items;
  gone : failing (λ x. not (ends_at l.self.at x)) l.fn.own.lives ≡ 0 → failing (λ x. not (ends_at l.self.at x)) l.own.lives ≡ 0;
  columns : l.own.columns ≡ l.fn.own.columns;
}
