use Rattle.std.proofs.Common.{◌≡◌, ◌++◌, drop}
use Rattle.query_plan.specs.Explained.{node_lines}
use Rattle.query_plan.proofs.plan_text.explain.Given as goal

-- what is written, and the lines of the nodes that are left, are the lines of all nodes
abbrev pub invariant-loop-i : goal.invariant-loop-i
invariant-loop-i l = l.out.items ++ node_lines l.plan l.i (drop l.i l.plan.nodes) ≡ node_lines l.plan 0 l.plan.nodes
