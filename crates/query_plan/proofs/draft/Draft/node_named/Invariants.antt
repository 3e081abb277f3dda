use Rattle.std.proofs.Common.{◌≡◌, drop}
use Rattle.query_plan.specs.Draft.{node_named}
use Rattle.query_plan.proofs.draft.Draft.node_named.Given as goal

abbrev pub invariant-loop-i : goal.invariant-loop-i
invariant-loop-i l = node_named l.self.names l.name ≡ node_named (drop l.i l.self.names) l.name
