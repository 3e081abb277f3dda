use Rattle.std.proofs.Common.{rules, subst, List}
use Rattle.std.proofs.lemmas.List.Sorted.{IsNonDecreasingBy-from_sort_by_key}
use Rattle.tw_rows.proofs.Bags.{SameBag-from_IsPermutation, SameBag-refl}
use Rattle.tw_rows.specs.declared.edge.Edge.{Edge}
use Rattle.sweep_laws.specs.Sweeps.{SyncsRise}
use Rattle.sweep_sides.proofs.TakenIn.{syncs_sorted}
use Rattle.sweep_sides.proofs.taking.by_sync.Goals as goal

pub returns-clause-same : goal.returns-clause-same
returns-clause-same c = SameBag-from_IsPermutation _ _ c.in_ok-sort_by_key.ensures.permutation

pub returns-clause-order : goal.returns-clause-order
returns-clause-order c = syncs_sorted _ (IsNonDecreasingBy-from_sort_by_key (λ (e : Edge). e.sync) _ c.in_ok-sort_by_key.ensures.sorted (λ a r q k. search rules))

pub returns-then-rise-clause-same : goal.returns-then-rise-clause-same
returns-then-rise-clause-same c = SameBag-refl _

pub returns-then-rise-clause-order : goal.returns-then-rise-clause-order
returns-then-rise-clause-order c = subst (λ (l : List Edge). SyncsRise 0 l) c.as_slice.ensures.value (c.rise.ensures c.if-rise.true)
