-- With the forms of the nodes that are left they are all.
use Rattle.std.proofs.Common.{◌≡◌, ◌++◌, drop}
use Rattle.frozen_state.specs.Forms.{node_forms}
use Rattle.frozen_state.proofs.form.push_nodes.Given as goal

abbrev pub invariant-loop-number : goal.invariant-loop-number
invariant-loop-number l = l.forms.items ++ node_forms l.workers l.plan l.number (drop l.number l.plan.nodes)
    ≡ l.fn.forms.items ++ node_forms l.workers l.plan 0 l.plan.nodes
