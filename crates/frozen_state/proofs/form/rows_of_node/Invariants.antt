-- The rows so far are those of the parts so far.
use Rattle.std.proofs.Common.{◌≡◌, map, take}
use Rattle.frozen_state.specs.Forms.{part_rows, kinds_of_row}
use Rattle.frozen_state.proofs.form.rows_of_node.Given as goal

abbrev pub invariant-loop-row : goal.invariant-loop-row
invariant-loop-row l =
    (l.row-items ≡ part_rows l.node) × (map (λ row. row.items) l.rows.items ≡ map (kinds_of_row l.plan l.number l.node) (take l.row-index l.row-items))
