use Rattle.std.proofs.Common.{◌≡◌, ◌∙◌, true, false, refl, ap, sym, subst}
use Rattle.std.proofs.lemmas.Result.{IfOk-weaker}
use Rattle.plan_model.proofs.Kept.{node_at}
use Rattle.lane_expr.specs.Steps.{with_texts}
use Rattle.where_select.specs.Stages.{is_of_rows}
use Rattle.where_select.proofs.Nodes.{one_node}
use Rattle.where_select.proofs.Tables.{on_err}
use Rattle.dataflow.proofs.RowNodes.{no_nodes_in, on_ok}
use Rattle.dataflow.proofs.stage.Stage.new.Goals as goal

pub rows_stage-requires : goal.rows_stage-requires
rows_stage-requires c =
    let plan = c.args.plan.now in
    let n = c.index-nodes-node.result in
    let at = node_at plan _ c.args.node n c.nodes-nodes.ensures.kept c.nodes-nodes.ensures.nodes c.requires.node c.index-nodes-node.is in
    record {
      node = c.requires.node;
      rows = λ m there. subst (λ k. is_of_rows k ≡ true) (one_node plan c.args.node n at m there) (sym c.reads_rows_alone.ensures ∙ c.if-reads_rows_alone.true);
    }

pub operator_stage-requires : goal.operator_stage-requires
operator_stage-requires c =
    let plan = c.args.plan.now in
    let n = c.index-nodes-node.result in
    let at = node_at plan _ c.args.node n c.nodes-nodes.ensures.kept c.nodes-nodes.ensures.nodes c.requires.node c.index-nodes-node.is in
    record {
      other = λ m there. subst (λ k. is_of_rows k ≡ false) (one_node plan c.args.node n at m there) (sym c.reads_rows_alone.ensures ∙ c.if-reads_rows_alone.false);
    }

pub returns-else-reads_rows_alone-clause-starts : goal.returns-else-reads_rows_alone-clause-starts
returns-else-reads_rows_alone-clause-starts c = IfOk-weaker c.operator_stage.result _ _ (λ s starts n there. starts c.args.texts.now n there) c.operator_stage.ensures.starts

pub returns-else-reads_rows_alone-clause-table : goal.returns-else-reads_rows_alone-clause-table
returns-else-reads_rows_alone-clause-table c =
    let plan = c.args.plan.now in
    let n = c.index-nodes-node.result in
    let at = node_at plan _ c.args.node n c.nodes-nodes.ensures.kept c.nodes-nodes.ensures.nodes c.requires.node c.index-nodes-node.is in
    on_ok c.operator_stage.result _ (λ m there.
    ap (with_texts c.args.texts.now) (sym (no_nodes_in m (subst (λ k. is_of_rows k ≡ false) (one_node plan c.args.node n at m there) (sym c.reads_rows_alone.ensures ∙ c.if-reads_rows_alone.false)))))

pub returns-else-reads_rows_alone-clause-err : goal.returns-else-reads_rows_alone-clause-err
returns-else-reads_rows_alone-clause-err c = on_err c.operator_stage.result _ (λ m there. (0, refl))

pub returns-then-reads_rows_alone-clause-runs : goal.returns-then-reads_rows_alone-clause-runs
returns-then-reads_rows_alone-clause-runs c = IfOk-weaker c.rows_stage.result _ _ (λ s runs n there. runs c.args.workers n there) c.rows_stage.ensures.runs
