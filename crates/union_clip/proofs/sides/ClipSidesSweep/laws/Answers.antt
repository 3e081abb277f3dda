use Rattle.std.proofs.Common.{length, min, refl}
use Rattle.edge_history.specs.History.{of}
use Rattle.plan_model.specs.Nodes.{node_in}
use Rattle.plan_laws.specs.Keeping.{plain_cells}
use Rattle.sweep_sides.proofs.KeptSides.{open_few, starts_few}
use Rattle.union_clip.specs.Operating.{clip_node}
use Rattle.union_clip.proofs.Answering.{clips_stored}
use Rattle.union_clip.proofs.Held.{waiting_few, clip_bound}
use Rattle.union_clip.proofs.Resuming.{clip_opens, clip_fits, clip_rows_stored}
use Rattle.union_clip.proofs.sides.ClipSidesSweep.laws.Goals as goal

pub returns-clause-opens : goal.returns-clause-opens
returns-clause-opens c = clip_opens

pub returns-clause-empty : goal.returns-clause-empty
returns-clause-empty c = clip_fits

pub returns-clause-tells : goal.returns-clause-tells
returns-clause-tells c = λ s to hl hr out k. k.kept.told

pub returns-clause-cells : goal.returns-clause-cells
returns-clause-cells c = λ s l r a b h k. clips_stored s.rows.left.key s.rows.right_key.columns l a b h

pub returns-clause-plain : goal.returns-clause-plain
returns-clause-plain c = λ s. refl

pub returns-clause-defined : goal.returns-clause-defined
returns-clause-defined c = λ s. refl

pub returns-clause-bounded : goal.returns-clause-bounded
returns-clause-bounded c = λ s x y hl hr out il ir k.
    let r = s.rows in
    let to = min x y in
    let own = node_in plain_cells (clip_node s) (of hl) (of hr) in
    clip_bound r.left.key r.right_key.columns x to (length r.left.rows) (length s.left_waiting) (length s.right_waiting) (of hl) (of hr) own
    (open_few to own r.left.rows k.kept.now)
    (waiting_few hl s.left_waiting to k.kept.left_history k.kept.left_waits)
    (starts_few hr to s.right_waiting k.kept.right_history k.kept.right_waits)

pub returns-clause-rows : goal.returns-clause-rows
returns-clause-rows c = λ s st saved to sound. clip_rows_stored st saved to st.left_kinds st.right_kinds refl refl sound
