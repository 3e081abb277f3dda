use Rattle.std.proofs.Common.{rules}
use Rattle.std.specs.Prelude.{◌≡◌}
use Rattle.std.proofs.lemmas.Fn.{always_returns_same}
use Rattle.std.proofs.lemmas.List.Sorted.{IsNonDecreasingBy-from_sort_by_key}
use Rattle.tw_rows.proofs.Bags.{SameBag-from_IsPermutation}
use Rattle.edge_history.specs.Order.{rank}
use Rattle.edge_history.proofs.Rising.{rises_from_sorted}
use Rattle.edge_history.proofs.order.in_order.Goals as goal

pub returns-clause-same : goal.returns-clause-same
returns-clause-same c = SameBag-from_IsPermutation _ _ c.in_ok-sort_by_key.ensures.permutation

pub returns-clause-order : goal.returns-clause-order
returns-clause-order c = rises_from_sorted _ (IsNonDecreasingBy-from_sort_by_key rank _ c.in_ok-sort_by_key.ensures.sorted (λ a r q k. search rules))

pub returns-clause-stable : goal.returns-clause-stable
returns-clause-stable c = c.in_ok-sort_by_key.ensures.stable rank (always_returns_same _ (λ a r. r ≡ rank a.0.now) _ (λ a r q k. search rules))
