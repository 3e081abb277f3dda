-- With the forms of the shards that are left they are all.
use Rattle.std.proofs.Common.{◌≡◌, ◌++◌, ◌-◌, ◌≤◌}
use Rattle.plan_model.specs.declared.node.Node.{Node}
use Rattle.frozen_state.specs.declared.owner.Owner.TheVariants as owners
use Rattle.frozen_state.specs.Forms.{node_rows, shard_forms}
use Rattle.std.specs.Prelude.{slice_get, Some}
use Rattle.frozen_state.proofs.form.push_node.Given as goal

abbrev pub invariant-loop-shard : goal.invariant-loop-shard
invariant-loop-shard l = (l.shard ≤ l.shards) × ((n : Node) → slice_get l.plan.nodes l.number ≡ Some n →
    l.forms.items ++ shard_forms (owners.Node l.number) (node_rows l.plan l.number n) l.shard (l.shards - l.shard)
    ≡ l.fn.forms.items ++ shard_forms (owners.Node l.number) (node_rows l.plan l.number n) 0 l.shards)
