use Rattle.std.proofs.Common.{◌≡◌, ◌∙◌, ℕ, List, [], map, ap, sym, subst}
use Rattle.std.proofs.lemmas.Result.{IfOk-weaker}
use Rattle.tw_rows.specs.Kinds.{cell_kind_of}
use Rattle.plan_model.specs.declared.node.Node.{Node}
use Rattle.plan_model.specs.IsPlan.{node_kinds}
use Rattle.edge_stream.specs.Listing.{EdgeListView, cells_of}
use Rattle.edge_stream.specs.Lists.{no_edges}
use Rattle.where_select.specs.Stages.{ArePlain, IsStageOf}
use Rattle.where_select.proofs.Batches.{results_stored, results_plain, project_kinds}
use Rattle.where_select.proofs.row_stage.RowStage.empty_list.Goals as goal

pub returns-in-Select-clause-kinds : goal.returns-in-Select-clause-kinds
returns-in-Select-clause-kinds c =
    let left = c.args.left.now in
    let ks = c.in-Select.project in
    IfOk-weaker c.new.result (λ (l : EdgeListView). l ≡ no_edges c.kinds.result.now c.capacity.result)
    (λ (l : EdgeListView). (n : Node) → (texts : List (List ℕ)) → IsStageOf texts left.capacity (cells_of left) n c.args.self.now → cells_of l ≡ node_kinds n (cells_of left) [])
    (λ l h n texts is. ap cells_of h ∙ ap (map cell_kind_of) c.kinds.ensures ∙ results_stored ks
    ∙ project_kinds texts left.capacity (cells_of left) n ks (subst (IsStageOf texts left.capacity (cells_of left) n) c.in-Select.is is))
    c.new.ensures

pub returns-in-Select-clause-plain : goal.returns-in-Select-clause-plain
returns-in-Select-clause-plain c =
    let left = c.args.left.now in
    IfOk-weaker c.new.result (λ (l : EdgeListView). l ≡ no_edges c.kinds.result.now c.capacity.result)
    (λ (l : EdgeListView). ArePlain left.kinds → ArePlain l.kinds)
    (λ l h plain. subst ArePlain (sym (ap (λ x. x.kinds) h ∙ c.kinds.ensures)) (results_plain c.in-Select.project))
    c.new.ensures
