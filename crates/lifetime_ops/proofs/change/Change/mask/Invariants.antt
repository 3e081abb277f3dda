-- The bits of the rows before this one are there.
use Rattle.std.proofs.Common.{◌≡◌, map, take, length}
use Rattle.batch.specs.Rows.{edge_of}
use Rattle.plan_laws.specs.Answers.{is_answered}
use Rattle.lifetime_ops.specs.Nodes.{node_of}
use Rattle.lifetime_ops.proofs.change.Change.mask.Given as goal

abbrev pub invariant-loop-i : goal.invariant-loop-i
invariant-loop-i l = record {
  bits : l.mask.items ≡ map (λ r. is_answered (node_of l.self) (edge_of r)) (take l.i l.batch.rows);
  room : l.mask.capacity ≡ length l.batch.rows;
}
