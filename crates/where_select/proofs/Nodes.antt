-- The nodes of a plan and their stages.
use Rattle.std.proofs.Common.{◌≡◌, ◌≤◌, ◌<◌, ℕ, true, List, [], ◌∷◌, length, map, refl, ap, sym, subst, ◌∙◌, arith, Result, Ok, Err}
use Rattle.std.specs.Prelude.{Some, None, All, IfOk, slice_get, slice_index_or}
use Rattle.std.proofs.lemmas.List.{length-map}
use Rattle.std.proofs.lemmas.List.Elements.{All-head, All-tail, All-weaker}
use Rattle.tw_rows.specs.Kinds.{cell_kind_of}
use Rattle.tw_rows.specs.declared.schema.ColumnDef.{ColumnDef}
use Rattle.tw_rows.specs.declared.kind.Kind.{Kind}
use Rattle.tw_rows.specs.declared.kind.CellKind.{CellKind}
use Rattle.tw_rows.specs.declared.kind.CellKind.TheVariants.{Bit}
use Rattle.tw_rows.specs.Texts.{BeginsWith}
use Rattle.plan_model.specs.declared.expr.ExprNode.{ExprNode}
use Rattle.plan_model.specs.declared.node.Node.{Node}
use Rattle.plan_model.specs.declared.node.Node.TheVariants.{Source, Where, Select, Union, Delay, Hop, Duration, Extend, Session, Clip, Group, Join, Anti, Coalesce, Mean, Top, Follow}
use Rattle.plan_model.specs.IsPlan.{PlanParts, IsExprOver, IsSoundOver, ReadsStream, kinds_of_stream, kinds_at, kinds_of_schema, node_kinds}
use Rattle.plan_model.specs.Meaning.{left_child, right_of, HasLower, at_child}
use Rattle.plan_model.specs.Typed.{IsTyped, kind_of}
use Rattle.plan_model.proofs.Kept.{IsNodeAt}
use Rattle.lane_expr.specs.Steps.{expr_of, AreStepsPlaced}
use Rattle.lane_expr.specs.Kernels.{Program, IsKernelOf}
use Rattle.lane_expr.proofs.Typing.{expr_of-more, AreStepsPlaced-more}
use Rattle.where_select.specs.Projects.{exprs_of}
use Rattle.where_select.specs.declared.row_stage.RowStage.{RowStage}
use Rattle.where_select.specs.declared.row_stage.RowStage.TheVariants.{Source as SourceStage, Where as WhereStage, Select as SelectStage}
use Rattle.where_select.specs.Stages.{is_of_rows, kinds_read, IsStageOf}

-- a table that has grown
module _ (texts more : List (List ℕ)) (begins : BeginsWith more texts) where
  kernel-more : (expr : List ExprNode) (k : Program) → IsKernelOf texts expr k → IsKernelOf more expr k
  kernel-more expr k is = record {
    same = ap (λ t. expr_of t k.steps) begins.1 ∙ expr_of-more texts begins.0 k.steps is.placed ∙ is.same;
    placed = subst (λ t. AreStepsPlaced t k.steps) (sym begins.1) (AreStepsPlaced-more texts begins.0 k.steps is.placed);
  }

  pub placed-more : (ks : List Program) → All (λ k. AreStepsPlaced texts k.steps) ks → All (λ k. AreStepsPlaced more k.steps) ks
  placed-more ks h = λ i d lt. subst (λ t. AreStepsPlaced t (slice_index_or ks i d).steps) (sym begins.1) (AreStepsPlaced-more texts begins.0 (slice_index_or ks i d).steps (h i d lt))

  pub exprs-more : (ks : List Program) → All (λ k. AreStepsPlaced texts k.steps) ks → exprs_of more ks ≡ exprs_of texts ks
  exprs-more [] h = refl
  exprs-more (k ∷ ks) h =
      let here : expr_of more k.steps ≡ expr_of texts k.steps = ap (λ t. expr_of t k.steps) begins.1 ∙ expr_of-more texts begins.0 k.steps (All-head (λ x. AreStepsPlaced texts x.steps) k ks h) in
      let rest = exprs-more ks (All-tail (λ x. AreStepsPlaced texts x.steps) k ks h) in
      λ i. here i ∷ rest i

  pub stage-more : (capacity : ℕ) (kinds : List CellKind) (n : Node) (s : RowStage) → IsStageOf texts capacity kinds n s → IsStageOf more capacity kinds n s
  stage-more capacity kinds n SourceStage is = is
  stage-more capacity kinds n (WhereStage f) is = record {
    child = is.child;
    test = is.test;
    is = is.is;
    filter = record { kernel = kernel-more is.test f.test is.filter.kernel; suited = is.filter.suited; room = is.filter.room };
  }
  stage-more capacity kinds n (SelectStage ks) is = record {
    child = is.child;
    items = is.items;
    is = is.is;
    project = record { same = exprs-more ks is.project.placed ∙ is.project.same; placed = placed-more ks is.project.placed; suited = is.project.suited; few = is.project.few };
  }

-- what a node of a plan reads
pub kinds_of_child : (plan : PlanParts) (n : Node) (child : ℕ) → left_child n ≡ Some child → kinds_read plan n ≡ kinds_at plan.schemas child
kinds_of_child plan (Source stream) child e = absurd (cc)
kinds_of_child plan (Where of test) child e = ap (at_child [] (kinds_at plan.schemas)) e
kinds_of_child plan (Select of items) child e = ap (at_child [] (kinds_at plan.schemas)) e
kinds_of_child plan (Union left right) child e = ap (at_child [] (kinds_at plan.schemas)) e
kinds_of_child plan (Delay of by) child e = ap (at_child [] (kinds_at plan.schemas)) e
kinds_of_child plan (Hop of size period) child e = ap (at_child [] (kinds_at plan.schemas)) e
kinds_of_child plan (Duration of by) child e = ap (at_child [] (kinds_at plan.schemas)) e
kinds_of_child plan (Extend of by) child e = ap (at_child [] (kinds_at plan.schemas)) e
kinds_of_child plan (Session of timeout key) child e = ap (at_child [] (kinds_at plan.schemas)) e
kinds_of_child plan (Clip left right left_key right_key) child e = ap (at_child [] (kinds_at plan.schemas)) e
kinds_of_child plan (Group of key aggs) child e = ap (at_child [] (kinds_at plan.schemas)) e
kinds_of_child plan (Join left right left_key right_key) child e = ap (at_child [] (kinds_at plan.schemas)) e
kinds_of_child plan (Anti left right left_key right_key) child e = ap (at_child [] (kinds_at plan.schemas)) e
kinds_of_child plan (Coalesce of) child e = ap (at_child [] (kinds_at plan.schemas)) e
kinds_of_child plan (Mean of at) child e = ap (at_child [] (kinds_at plan.schemas)) e
kinds_of_child plan (Top of key by count) child e = ap (at_child [] (kinds_at plan.schemas)) e
kinds_of_child plan (Follow left right left_key right_key within) child e = ap (at_child [] (kinds_at plan.schemas)) e

-- a node with no child is a source
pub childless : (n : Node) → left_child n ≡ None → (stream : ℕ) × (n ≡ Source stream)
childless (Source stream) e = (stream, refl)
childless (Where of test) e = absurd (cc)
childless (Select of items) e = absurd (cc)
childless (Union left right) e = absurd (cc)
childless (Delay of by) e = absurd (cc)
childless (Hop of size period) e = absurd (cc)
childless (Duration of by) e = absurd (cc)
childless (Extend of by) e = absurd (cc)
childless (Session of timeout key) e = absurd (cc)
childless (Clip left right left_key right_key) e = absurd (cc)
childless (Group of key aggs) e = absurd (cc)
childless (Join left right left_key right_key) e = absurd (cc)
childless (Anti left right left_key right_key) e = absurd (cc)
childless (Coalesce of) e = absurd (cc)
childless (Mean of at) e = absurd (cc)
childless (Top of key by count) e = absurd (cc)
childless (Follow left right left_key right_key within) e = absurd (cc)

-- a node of rows is a Source, a Where or a Select
pub of_rows_alone : (n : Node) → is_of_rows n ≡ true → ((x : ℕ) → n ≡ Source x → ⊥) → ((x : ℕ) (test : List ExprNode) → n ≡ Where x test → ⊥) → ((x : ℕ) (items : List (List ExprNode)) → n ≡ Select x items → ⊥) → ⊥
of_rows_alone (Source stream) h a b d = a stream refl
of_rows_alone (Where of test) h a b d = b of test refl
of_rows_alone (Select of items) h a b d = d of items refl
of_rows_alone (Union left right) h a b d = absurd (cc)
of_rows_alone (Delay of by) h a b d = absurd (cc)
of_rows_alone (Hop of size period) h a b d = absurd (cc)
of_rows_alone (Duration of by) h a b d = absurd (cc)
of_rows_alone (Extend of by) h a b d = absurd (cc)
of_rows_alone (Session of timeout key) h a b d = absurd (cc)
of_rows_alone (Clip left right left_key right_key) h a b d = absurd (cc)
of_rows_alone (Group of key aggs) h a b d = absurd (cc)
of_rows_alone (Join left right left_key right_key) h a b d = absurd (cc)
of_rows_alone (Anti left right left_key right_key) h a b d = absurd (cc)
of_rows_alone (Coalesce of) h a b d = absurd (cc)
of_rows_alone (Mean of at) h a b d = absurd (cc)
of_rows_alone (Top of key by count) h a b d = absurd (cc)
of_rows_alone (Follow left right left_key right_key within) h a b d = absurd (cc)

module _ (plan : PlanParts) (i : ℕ) (n : Node) (at : IsNodeAt plan i n) where
  pub stream_there : (stream : ℕ) → n ≡ Source stream → stream < length plan.streams
  stream_there stream e = subst (ReadsStream plan.streams) e (at.kept.nodes_are.each i n at.here).streamed

  pub child_there : (child : ℕ) → left_child n ≡ Some child → child < length plan.schemas
  child_there child e =
      let low : child < i = subst (HasLower i) e (at.kept.nodes_are.each i n at.here).left_lower in
      let one_each = at.kept.nodes_are.one_each in
      omega (arith, low, at.low, one_each)

  pub where_sound : (child : ℕ) (test : List ExprNode) (kinds : List CellKind) → n ≡ Where child test → kinds ≡ kinds_read plan n → IsTyped kinds test × (kind_of test kinds ≡ Bit)
  where_sound child test kinds e same =
      let sound = subst (λ m. IsSoundOver m (kinds_read plan n) (right_of [] (kinds_at plan.schemas) n)) e (at.kept.nodes_are.each i n at.here).sound in
      subst (λ ks. IsTyped ks test × (kind_of test ks ≡ Bit)) (sym same) (sound.0.1, sound.1)

  pub select_typed : (child : ℕ) (items : List (List ExprNode)) (kinds : List CellKind) → n ≡ Select child items → kinds ≡ kinds_read plan n → All (IsTyped kinds) items
  select_typed child items kinds e same =
      let sound = subst (λ m. IsSoundOver m (kinds_read plan n) (right_of [] (kinds_at plan.schemas) n)) e (at.kept.nodes_are.each i n at.here).sound in
      subst (λ ks. All (IsTyped ks) items) (sym same)
      (All-weaker (IsExprOver (kinds_read plan n)) (IsTyped (kinds_read plan n)) (λ x h. h.1) items sound)

  pub select_few : (child : ℕ) (items : List (List ExprNode)) → n ≡ Select child items → length items ≤ 32
  select_few child items e =
      let schema = slice_index_or plan.schemas i [] in
      let kept = at.kept.nodes_are.each i n at.here in
      let kinds : kinds_of_schema schema ≡ node_kinds (Select child items) (kinds_read plan n) (right_of [] (kinds_at plan.schemas) n) = kept.kinds ∙ ap (λ m. node_kinds m (kinds_read plan n) (right_of [] (kinds_at plan.schemas) n)) e in
      let count : length schema ≡ length items = sym (length-map schema _) ∙ ap length kinds ∙ length-map items _ in
      let narrow = kept.narrow in
      omega (arith, count, narrow)

  -- there is one node of the number
  pub one_node : (m : Node) → slice_get plan.nodes i ≡ Some m → n ≡ m
  one_node m e = let here = at.here in cc

  pub stream_read : (stream : ℕ) → n ≡ Source stream → (m : Node) → slice_get plan.nodes i ≡ Some m → kinds_of_stream plan.streams stream ≡ kinds_read plan m
  stream_read stream is m e = ap (kinds_read plan) (sym is ∙ one_node m e)

  pub child_read : (child : ℕ) → left_child n ≡ Some child → (m : Node) → slice_get plan.nodes i ≡ Some m → kinds_at plan.schemas child ≡ kinds_read plan m
  child_read child is m e = sym (kinds_of_child plan n child is) ∙ ap (kinds_read plan) (one_node m e)

-- how the columns of these kinds are stored
pub stored_kinds : (columns : List ColumnDef) → map cell_kind_of (map (λ c. c.kind) columns) ≡ kinds_of_schema columns
stored_kinds [] = refl
stored_kinds (c ∷ cs) = ap (λ ks. cell_kind_of c.kind ∷ ks) (stored_kinds cs)

pub kinds_are_stored : {V E : Type 0} (r : Result V E) (items : V → List Kind) (columns : List ColumnDef) (kinds : List CellKind) → kinds_of_schema columns ≡ kinds → IfOk r (λ v. items v ≡ map (λ c. c.kind) columns) →
    IfOk r (λ v. map cell_kind_of (items v) ≡ kinds)
kinds_are_stored (Ok v) items columns kinds same e = ap (map cell_kind_of) e ∙ stored_kinds columns ∙ same
kinds_are_stored (Err e) items columns kinds same h = tt
