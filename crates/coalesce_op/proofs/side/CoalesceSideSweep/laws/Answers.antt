use Rattle.std.proofs.Common.{refl}
use Rattle.sweep_sides.proofs.KeptSides.{none_side}
use Rattle.coalesce_op.proofs.Answering.{coalesces_stored}
use Rattle.coalesce_op.proofs.Resuming.{coalesce_opens, coalesce_bound, coalesce_rows_stored}
use Rattle.coalesce_op.proofs.side.CoalesceSideSweep.laws.Goals as goal

pub returns-clause-opens : goal.returns-clause-opens
returns-clause-opens c = coalesce_opens

pub returns-clause-empty : goal.returns-clause-empty
returns-clause-empty c = λ s l r to e. none_side l to s.queues s.waiting e.no_rows e.none

pub returns-clause-tells : goal.returns-clause-tells
returns-clause-tells c = λ s to hl hr out k. k.kept.told

pub returns-clause-cells : goal.returns-clause-cells
returns-clause-cells c = λ s l r a b h k. coalesces_stored l a h

pub returns-clause-plain : goal.returns-clause-plain
returns-clause-plain c = λ s. refl

pub returns-clause-defined : goal.returns-clause-defined
returns-clause-defined c = λ s. refl

pub returns-clause-bounded : goal.returns-clause-bounded
returns-clause-bounded c = λ s x y hl hr out il ir k. coalesce_bound x s.queues s.waiting hl hr out k.kept

pub returns-clause-rows : goal.returns-clause-rows
returns-clause-rows c = λ s st saved to sound. coalesce_rows_stored st saved to st.left_kinds refl sound
