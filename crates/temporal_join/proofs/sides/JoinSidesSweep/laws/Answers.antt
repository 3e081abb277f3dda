use Rattle.std.proofs.Common.{◌+◌, length, min, refl}
use Rattle.edge_history.specs.History.{of}
use Rattle.plan_model.specs.Keys.{paired_row}
use Rattle.plan_model.specs.Nodes.{node_in}
use Rattle.plan_laws.specs.Keeping.{plain_cells}
use Rattle.sweep_sides.proofs.KeptSides.{side_bounded}
use Rattle.temporal_join.specs.Operating.{join_node}
use Rattle.temporal_join.specs.States.{left_rows, right_rows, left_pending, right_pending}
use Rattle.temporal_join.proofs.Answering.{joins_stored}
use Rattle.temporal_join.proofs.Resuming.{join_opens, join_fits, join_bound, join_rows_stored}
use Rattle.temporal_join.proofs.sides.JoinSidesSweep.laws.Goals as goal

pub returns-clause-opens : goal.returns-clause-opens
returns-clause-opens c = join_opens

pub returns-clause-empty : goal.returns-clause-empty
returns-clause-empty c = join_fits

pub returns-clause-tells : goal.returns-clause-tells
returns-clause-tells c = λ s to hl hr out k. k.kept.told

pub returns-clause-cells : goal.returns-clause-cells
returns-clause-cells c = λ s l r a b h k.
    let rk = s.rows.right_key.items in
    joins_stored s.rows.left_key.items rk l r (paired_row rk l r) refl a b h k

pub returns-clause-plain : goal.returns-clause-plain
returns-clause-plain c = λ s. refl

pub returns-clause-defined : goal.returns-clause-defined
returns-clause-defined c = λ s. refl

pub returns-clause-bounded : goal.returns-clause-bounded
returns-clause-bounded c = λ s x y hl hr out il ir k.
    let r = s.rows in
    let to = min x y in
    join_bound r.left_key.items r.right_key.items x to (length (left_rows s) + length (left_pending s)) (length (right_rows s) + length (right_pending s)) (of hl) (of hr)
    (node_in plain_cells (join_node s) (of hl) (of hr))
    (side_bounded hl to (left_rows s) (left_pending s) k.kept.left_history k.kept.now.left_rows k.kept.left_waits)
    (side_bounded hr to (right_rows s) (right_pending s) k.kept.right_history k.kept.now.right_rows k.kept.right_waits)

pub returns-clause-rows : goal.returns-clause-rows
returns-clause-rows c = λ s st saved to sound. join_rows_stored st saved to st.left_kinds st.right_kinds refl refl sound
