use Rattle.std.proofs.Common.{◌≡◌, ◌++◌, List, ap, ◌∙◌, subst, Some, slice_get, ℕ, refl}
use Rattle.plan_model.specs.declared.node.Node.{Node}
use Rattle.frozen_state.specs.declared.owner.Owner.TheVariants as owners
use Rattle.frozen_state.specs.Forms.{shard_forms, node_rows}
use Rattle.frozen_state.proofs.Adding.{node_more, with_rest}
use Rattle.std.proofs.lemmas.Option.{slice_get_read}
use Rattle.frozen_state.proofs.form.push_nodes.Goals as goal

pub loop-number-preserved : goal.loop-number-preserved
loop-number-preserved c =
    let plan = c.args.plan.now in
    let i = c.loop-number.number in
    let n = c.index-nodes-number.result in
    let there = slice_get_read c.nodes-nodes.result.now _ i n refl c.loop-number-test.true c.index-nodes-number.is in
    let is = subst (λ (l : List Node). slice_get l i ≡ Some n) c.nodes-nodes.ensures.nodes there in
    let added = c.in_ok-push_node.ensures n is ∙ ap (λ (k : ℕ). c.loop-number.forms.items ++ shard_forms (owners.Node i) (node_rows plan i n) 0 k) c.shards_of_node.ensures in
    with_rest _ _ _ _ _ _ added (node_more c.args.workers plan plan.nodes i n is) c.loop-number.invariant
