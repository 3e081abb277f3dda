use Rattle.std.proofs.Common.{◌≡◌, true, subst}
use Rattle.plan_model.proofs.Kept.{node_at}
use Rattle.where_select.proofs.Nodes.{one_node}
use Rattle.dataflow.specs.Held.{has_two}
use Rattle.dataflow.proofs.RowNodes.{two_left}
use Rattle.dataflow.proofs.making.StageMaker.operator_stage.Goals as goal

pub two_sided_stage-requires : goal.two_sided_stage-requires
two_sided_stage-requires c =
    let plan = c.args.self.now.plan.now in
    let n = c.index-nodes-self.result in
    let at = node_at plan _ c.args.self.now.node n c.nodes-nodes.ensures.kept c.nodes-nodes.ensures.nodes c.args.self.now.inside c.index-nodes-self.is in
    let other = c.in_default in
    record {
      two = λ m there. subst (λ k. has_two k ≡ true) (one_node plan c.args.self.now.node n at m there)
          (two_left n (c.requires.other n at.here) other.not-Delay other.not-Hop other.not-Duration other.not-Extend other.not-Group other.not-Session
          other.not-Coalesce other.not-Mean other.not-Top);
    }
