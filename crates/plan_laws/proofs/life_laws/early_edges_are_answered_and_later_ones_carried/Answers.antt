use Rattle.edge_history.proofs.Agreeing.{same_order}
use Rattle.plan_laws.specs.Answers.{answered}
use Rattle.plan_laws.proofs.Lives.{new_lives}
use Rattle.plan_laws.proofs.LifeSteps.{answered_in_order, lives_from, lives_below, lives_step}
use Rattle.plan_laws.proofs.life_laws.early_edges_are_answered_and_later_ones_carried.Goals as goal

pub returns-clause-kept : goal.returns-clause-kept
returns-clause-kept c = λ n texts x y u v carried left right out l r all k. lives_step n (new_lives n k) texts x y u v carried left right out l r all

pub returns-clause-from : goal.returns-clause-from
returns-clause-from c = λ n x y u carried l all k xu lu same late come. lives_from n (new_lives n k) x y u carried l all xu lu same late come

pub returns-clause-below : goal.returns-clause-below
returns-clause-below c = λ n u v all k lu. lives_below n (new_lives n k) u v all lu

pub returns-clause-order : goal.returns-clause-order
returns-clause-order c = λ n h k o. let old = (same_order h).0 o in (same_order (answered n h)).1 (answered_in_order n (new_lives n k) h old.0 old.1)
