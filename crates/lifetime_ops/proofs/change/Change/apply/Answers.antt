use Rattle.std.proofs.Common.{◌∙◌, ap, map}
use Rattle.batch.specs.Rows.{edges_of, kept}
use Rattle.edge_stream.proofs.Rows.{edges-kept}
use Rattle.plan_laws.specs.Answers.{is_answered}
use Rattle.lifetime_ops.specs.Nodes.{node_of}
use Rattle.lifetime_ops.specs.Times.{retimed_edge}
use Rattle.lifetime_ops.proofs.Rows.{edges_changed}
use Rattle.lifetime_ops.proofs.change.Change.apply.Goals as goal

pub returns-clause-edges : goal.returns-clause-edges
returns-clause-edges c =
    ap (λ t. edges_of t.rows) c.set_times.ensures
    ∙ edges_changed c.args.self.now c.keep.new.self.rows
    ∙ ap (map (retimed_edge (node_of c.args.self.now))) (ap (λ t. edges_of t.rows) c.keep.ensures
    ∙ ap (λ m. edges_of (kept c.args.batch.now.rows m)) c.in_ok-mask.ensures
    ∙ edges-kept (is_answered (node_of c.args.self.now)) c.args.batch.now.rows)
