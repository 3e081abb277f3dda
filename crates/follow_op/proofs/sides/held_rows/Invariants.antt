use Rattle.std.proofs.Common.{◌≡◌, take}
use Rattle.sweep_laws.specs.Saving.{rows_of}
use Rattle.follow_op.proofs.sides.held_rows.Given as goal

abbrev pub invariant-loop-edge : goal.invariant-loop-edge
invariant-loop-edge l = l.rows.items ≡ rows_of (take l.edge-index l.edges)
