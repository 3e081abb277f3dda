use Rattle.std.proofs.Common.{ap, arith}
use Rattle.tw_rows.specs.Bag.{total}
use Rattle.tw_rows.specs.Event.{alive}
use Rattle.tw_rows.specs.SameCells.{same_cells}
use Rattle.edge_history.proofs.Retaining.{AreEvents-none_fails}
use Rattle.sweep_laws.proofs.QueueMoves.{edges_move}
use Rattle.coalesce_op.proofs.Steps.{started_there}
use Rattle.coalesce_op.proofs.sweep.pass_in_place.Goals as goal

pub returns-clause-swept : goal.returns-clause-swept
returns-clause-swept c = λ a low lives same h.
    c.in_ok-move_in_place.ensures.moved (alive a) low (edges_move same_cells a c.args.t c.args.now.now (AreEvents-none_fails a lives) same) h

pub returns-clause-rows : goal.returns-clause-rows
returns-clause-rows c = λ at w.
    let f = c.in_ok-move_in_place.ensures.rows w in
    let g = ap (total w) (started_there c.args.t c.args.now.now at) in
    omega (arith, f, g)
