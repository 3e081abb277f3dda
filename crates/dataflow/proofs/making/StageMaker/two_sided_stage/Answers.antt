use Rattle.plan_model.proofs.Kept.{node_at}
use Rattle.dataflow.proofs.RowNodes.{two_alone}
use Rattle.dataflow.proofs.making.StageMaker.two_sided_stage.Goals as goal

pub unreachable-requires : goal.unreachable-requires
unreachable-requires c =
    let plan = c.args.self.now.plan.now in
    let n = c.index-nodes-self.result in
    let at = node_at plan _ c.args.self.now.node n c.nodes-nodes.ensures.kept c.nodes-nodes.ensures.nodes c.args.self.now.inside c.index-nodes-self.is in
    let other = c.in_default in
    two_alone n (c.requires.two n at.here) other.not-Union other.not-Join other.not-Anti other.not-Clip other.not-Follow
