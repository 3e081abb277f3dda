use Rattle.std.proofs.Common.{refl}
use Rattle.outer_top.specs.TopKeys.{kept_rows}
use Rattle.outer_top.proofs.Answering.{tops_stored}
use Rattle.outer_top.proofs.Resuming.{top_opens, top_fits, top_bound, top_rows_stored}
use Rattle.outer_top.proofs.side.TopSideSweep.laws.Goals as goal

pub returns-clause-opens : goal.returns-clause-opens
returns-clause-opens c = top_opens

pub returns-clause-empty : goal.returns-clause-empty
returns-clause-empty c = λ s l r to e. top_fits s l to e

pub returns-clause-tells : goal.returns-clause-tells
returns-clause-tells c = λ s to hl hr out k. k.kept.told

pub returns-clause-cells : goal.returns-clause-cells
returns-clause-cells c = λ s l r a b h k. tops_stored s.tops.key.columns s.tops.by s.tops.most l a h

pub returns-clause-plain : goal.returns-clause-plain
returns-clause-plain c = λ s. refl

pub returns-clause-defined : goal.returns-clause-defined
returns-clause-defined c = λ s. refl

pub returns-clause-bounded : goal.returns-clause-bounded
returns-clause-bounded c = λ s x y hl hr out il ir k.
    top_bound s.tops.key.columns s.tops.by s.tops.most x (kept_rows s.tops.keys.entries) s.waiting s.queues hl hr out k.kept

pub returns-clause-rows : goal.returns-clause-rows
returns-clause-rows c = λ s st saved to sound. top_rows_stored st saved to st.left_kinds refl sound
