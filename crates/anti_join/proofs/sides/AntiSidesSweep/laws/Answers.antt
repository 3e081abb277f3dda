use Rattle.std.proofs.Common.{◌+◌, length, min, arith, refl}
use Rattle.edge_history.specs.History.{of}
use Rattle.plan_model.specs.Nodes.{node_in}
use Rattle.plan_laws.specs.Keeping.{plain_cells}
use Rattle.sweep_sides.proofs.KeptSides.{side_bounded, open_few}
use Rattle.anti_join.specs.Operating.{anti_node}
use Rattle.anti_join.proofs.Answering.{antis_stored}
use Rattle.anti_join.proofs.Held.{times_few}
use Rattle.anti_join.proofs.Resuming.{anti_opens, anti_fits, anti_bound, anti_rows_stored}
use Rattle.anti_join.proofs.sides.AntiSidesSweep.laws.Goals as goal

pub returns-clause-opens : goal.returns-clause-opens
returns-clause-opens c = anti_opens

pub returns-clause-empty : goal.returns-clause-empty
returns-clause-empty c = anti_fits

pub returns-clause-tells : goal.returns-clause-tells
returns-clause-tells c = λ s to hl hr out k. k.kept.told

pub returns-clause-cells : goal.returns-clause-cells
returns-clause-cells c = λ s l r a b h k. antis_stored s.rows.left.key s.rows.right.key l a b h

pub returns-clause-plain : goal.returns-clause-plain
returns-clause-plain c = λ s. refl

pub returns-clause-defined : goal.returns-clause-defined
returns-clause-defined c = λ s. refl

pub returns-clause-bounded : goal.returns-clause-bounded
returns-clause-bounded c = λ s x y hl hr out il ir k.
    let r = s.rows in
    let to = min x y in
    let times = times_few r.left.key r.times.rows r.left.rows k.single k.kept.now.few in
    let rows = open_few to (of hl) r.left.rows k.kept.now.now.left_rows in
    anti_bound r.left.key r.right.key x to (length r.left.rows + length s.left_waiting) (length r.right.rows + length s.right_waiting) (length r.times.rows) (of hl) (of hr)
    (node_in plain_cells (anti_node s) (of hl) (of hr))
    (side_bounded hl to r.left.rows s.left_waiting k.kept.left_history k.kept.now.now.left_rows k.kept.left_waits)
    (side_bounded hr to r.right.rows s.right_waiting k.kept.right_history k.kept.now.now.right_rows k.kept.right_waits)
    (omega (arith, times, rows))

pub returns-clause-rows : goal.returns-clause-rows
returns-clause-rows c = λ s st saved to sound. anti_rows_stored st saved to st.left_kinds st.right_kinds refl refl sound.stored
