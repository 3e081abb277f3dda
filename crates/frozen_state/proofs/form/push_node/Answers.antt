use Rattle.std.proofs.Common.{◌≡◌, ◌∷◌, ◌++◌, List, [], ap, ◌∙◌, arith, subst, Some, slice_get, sym}
use Rattle.tw_rows.specs.declared.kind.CellKind.{CellKind}
use Rattle.plan_model.specs.declared.node.Node.{Node}
use Rattle.frozen_state.specs.declared.owner.Owner.TheVariants as owners
use Rattle.frozen_state.specs.Forms.{node_rows}
use Rattle.frozen_state.proofs.Adding.{shard_more, with_rest}
use Rattle.std.proofs.lemmas.Option.{get_or_from_slice_get}
use Rattle.frozen_state.proofs.form.push_node.Goals as goal

pub loop-shard-preserved : goal.loop-shard-preserved
loop-shard-preserved c = (
  omega arith,
  λ n is.
      let at = subst (λ (l : List Node). slice_get l c.args.number ≡ Some n) (sym c.nodes-nodes.ensures.nodes) is in
      let node = c.index-nodes-number.is ∙ get_or_from_slice_get c.nodes-nodes.result.now c.args.number n _ at in
      let rows = c.in_ok-rows_of_node.ensures ∙ ap (node_rows c.args.plan.now c.args.number) node in
      let added = c.in_ok-push.ensures.items ∙ ap (λ (r : List (List CellKind)). c.loop-shard.forms.items ++ record { owner = owners.Node c.args.number; shard = c.loop-shard.shard; rows = r } ∷ []) rows in
      with_rest _ _ _ _ _ _ added (shard_more (owners.Node c.args.number) (node_rows c.args.plan.now c.args.number n) c.loop-shard.shard c.args.shards c.loop-shard-test.true)
      (c.loop-shard.invariant.1 n is),
)
