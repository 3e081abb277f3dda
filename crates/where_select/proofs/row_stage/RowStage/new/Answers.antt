use Rattle.std.proofs.Common.{◌≤◌, ◌∙◌, length, map, ap, sym, subst}
use Rattle.std.specs.Prelude.{All}
use Rattle.tw_rows.specs.Kinds.{cell_kind_of}
use Rattle.plan_model.specs.Typed.{IsTyped}
use Rattle.plan_model.proofs.Kept.{node_at}
use Rattle.where_select.specs.Stages.{kinds_read, IsFilterOf, IsProjectOf}
use Rattle.where_select.proofs.Nodes.{where_sound, select_typed, select_few, one_node, of_rows_alone}
use Rattle.where_select.proofs.row_stage.RowStage.new.Goals as goal

pub filter_of-requires-clause-typed : goal.filter_of-requires-clause-typed
filter_of-requires-clause-typed c =
    let plan = c.args.plan.now in
    let n = c.index-nodes-node.result in
    let at = node_at plan _ c.args.node n c.nodes-nodes.ensures.kept c.nodes-nodes.ensures.nodes c.requires.node c.index-nodes-node.is in
    (where_sound plan c.args.node n at c.in-Where.of c.in-Where.test (map cell_kind_of c.deref.result.now) c.in-Where.is (ap (map cell_kind_of) c.deref.ensures.value ∙ c.in_ok-kinds.ensures n at.here)).0

pub filter_of-requires-clause-bit : goal.filter_of-requires-clause-bit
filter_of-requires-clause-bit c =
    let plan = c.args.plan.now in
    let n = c.index-nodes-node.result in
    let at = node_at plan _ c.args.node n c.nodes-nodes.ensures.kept c.nodes-nodes.ensures.nodes c.requires.node c.index-nodes-node.is in
    (where_sound plan c.args.node n at c.in-Where.of c.in-Where.test (map cell_kind_of c.deref.result.now) c.in-Where.is (ap (map cell_kind_of) c.deref.ensures.value ∙ c.in_ok-kinds.ensures n at.here)).1

pub returns-in-Where-clause-stage : goal.returns-in-Where-clause-stage
returns-in-Where-clause-stage c =
    let plan = c.args.plan.now in
    let n = c.index-nodes-node.result in
    let at = node_at plan _ c.args.node n c.nodes-nodes.ensures.kept c.nodes-nodes.ensures.nodes c.requires.node c.index-nodes-node.is in
    λ m e.
    let same = one_node plan c.args.node n at m e in
    record {
      child = c.in-Where.of;
      test = c.in-Where.test;
      is = sym same ∙ c.in-Where.is;
      filter = subst (λ ks. IsFilterOf c.filter_of.new.texts c.args.capacity ks c.in-Where.test c.in_ok-filter-in-Where.filter)
          (ap (map cell_kind_of) c.deref.ensures.value ∙ c.in_ok-kinds.ensures n at.here ∙ ap (kinds_read plan) same)
          c.in_ok-filter-in-Where.ensures.filter;
    }

pub project_of-requires-clause-typed : goal.project_of-requires-clause-typed
project_of-requires-clause-typed c =
    let plan = c.args.plan.now in
    let n = c.index-nodes-node.result in
    let at = node_at plan _ c.args.node n c.nodes-nodes.ensures.kept c.nodes-nodes.ensures.nodes c.requires.node c.index-nodes-node.is in
    let kinds = map cell_kind_of c.deref-in-Select.result.now in
    subst (All (IsTyped kinds)) (sym c.items.ensures)
    (select_typed plan c.args.node n at c.in-Select.of c.in-Select.items kinds c.in-Select.is (ap (map cell_kind_of) c.deref-in-Select.ensures.value ∙ c.in_ok-kinds.ensures n at.here))

pub project_of-requires-clause-few : goal.project_of-requires-clause-few
project_of-requires-clause-few c =
    let plan = c.args.plan.now in
    let n = c.index-nodes-node.result in
    let at = node_at plan _ c.args.node n c.nodes-nodes.ensures.kept c.nodes-nodes.ensures.nodes c.requires.node c.index-nodes-node.is in
    subst (λ items. length items ≤ 32) (sym c.items.ensures) (select_few plan c.args.node n at c.in-Select.of c.in-Select.items c.in-Select.is)

pub returns-in-Select-clause-stage : goal.returns-in-Select-clause-stage
returns-in-Select-clause-stage c =
    let plan = c.args.plan.now in
    let n = c.index-nodes-node.result in
    let at = node_at plan _ c.args.node n c.nodes-nodes.ensures.kept c.nodes-nodes.ensures.nodes c.requires.node c.index-nodes-node.is in
    λ m e.
    let same = one_node plan c.args.node n at m e in
    record {
      child = c.in-Select.of;
      items = c.in-Select.items;
      is = sym same ∙ c.in-Select.is;
      project = subst (λ items. IsProjectOf c.project_of.new.texts c.args.capacity (kinds_read plan m) items c.in_ok-project-in-Select.project) c.items.ensures
          (subst (λ ks. IsProjectOf c.project_of.new.texts c.args.capacity ks c.items.result.now c.in_ok-project-in-Select.project)
          (ap (map cell_kind_of) c.deref-in-Select.ensures.value ∙ c.in_ok-kinds.ensures n at.here ∙ ap (kinds_read plan) same)
          c.in_ok-project-in-Select.ensures.project);
    }

pub unreachable-requires : goal.unreachable-requires
unreachable-requires c =
    let plan = c.args.plan.now in
    let n = c.index-nodes-node.result in
    let at = node_at plan _ c.args.node n c.nodes-nodes.ensures.kept c.nodes-nodes.ensures.nodes c.requires.node c.index-nodes-node.is in
    of_rows_alone n (c.requires.rows n at.here) c.in_default.not-Source c.in_default.not-Where c.in_default.not-Select
