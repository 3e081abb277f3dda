-- The five nodes of a left join fit one behind the other.
use Rattle.std.specs.Prelude.{◌≡◌, ℕ, zero, suc, ◌+◌, ◌<◌, ◌≤◌, Bool, true, Option, Some, List, [], ◌∷◌, ◌++◌, map, length, slice_index_or, All, refl}
use lib.Pointwise.{pointwise}
use Rattle.std.proofs.Common.{sym, ◌∙◌, ap, subst, arith, append_assoc}
use Rattle.std.proofs.lemmas.List.{length-map, length_push, map-append, get_or_at}
use Rattle.std.proofs.lemmas.List.Elements.{All-nil, All-cons, All-append}
use Rattle.tw_rows.specs.declared.kind.CellKind.{CellKind}
use Rattle.tw_rows.specs.declared.kind.CellKind.TheVariants.{Whole}
use Rattle.tw_rows.specs.declared.kind.Kind.{Kind}
use Rattle.tw_rows.specs.declared.schema.ColumnDef.{ColumnDef}
use Rattle.tw_rows.specs.declared.schema.StreamDef.{StreamDef}
use Rattle.tw_rows.specs.Instant.{instants}
use Rattle.tw_rows.specs.Kinds.{cell_kind_of}
use Rattle.plan_model.specs.declared.expr.ExprNode.{ExprNode}
use Rattle.plan_model.specs.declared.expr.ExprNode.TheVariants as E
use Rattle.plan_model.specs.declared.node.Node.{Node}
use Rattle.plan_model.specs.declared.node.Node.TheVariants.{Select, Union}
use Rattle.plan_model.specs.IsPlan.{kinds_of_schema, kinds_at, IsExprOver}
use Rattle.plan_model.specs.Keys.{outside_key}
use Rattle.plan_model.specs.Typed.{kind_of}
use Rattle.plan_model.proofs.Growing.{kinds_grow}
use Rattle.query_text.specs.declared.tree.TreeNode.{TreeNode}
use Rattle.query_plan.specs.Names.{tree_exprs}
use Rattle.query_plan.specs.Types.{kinds, tree_types}
use Rattle.query_plan.specs.Schemas.{fills_fit}
use Rattle.query_plan.proofs.Fitting.{kinds-join_schema, fills_fit-same}
use Rattle.query_plan.proofs.Typing.{tree_types-typed}
use Rattle.query_plan.specs.Draft.{Planned, Draft, schema_at}
use Rattle.query_plan.specs.Steps.{PlannedSides, joined, join_node, key_group, anti_node, columns_alone, filled_node, left_nodes}
use Rattle.query_plan.proofs.Fits.{IsFit, AllFit, calm}
use Rattle.query_plan.proofs.BothSides.{AreSides, kinds_of_last, join_fit, group_fit, anti_fit}

-- an item for each of the columns is well typed, and of the column's kind
columns_typed : (before rest : List CellKind) (a : ℕ) → length before ≡ a → All (IsExprOver (before ++ rest)) (map (λ c. E.Column c ∷ []) (instants a (length rest)))
columns_typed before [] a long = All-nil (IsExprOver (before ++ []))
columns_typed before (k ∷ ks) a long =
    All-cons (IsExprOver (before ++ k ∷ ks)) (E.Column a ∷ []) (map (λ c. E.Column c ∷ []) (instants (suc a) (length ks)))
    (omega arith, (within before k ks a long, tt))
    (subst (λ l. All (IsExprOver l) (map (λ c. E.Column c ∷ []) (instants (suc a) (length ks)))) (append_assoc before (k ∷ []) ks)
    (columns_typed (before ++ k ∷ []) ks (suc a) (let more = length_push before k in omega (arith, more, long))))
  where
    within : (before : List CellKind) (k : CellKind) (ks : List CellKind) (a : ℕ) → length before ≡ a → a < length (before ++ k ∷ ks)
    within [] k ks a long = omega (arith, long)
    within (b ∷ bs) k ks zero long = absurd (omega (arith, long))
    within (b ∷ bs) k ks (suc a) long = let less = within bs k ks a (omega (arith, long)) in omega (arith, less)

columns_kinds : (before rest : List CellKind) (a : ℕ) → length before ≡ a → map (λ e. kind_of e (before ++ rest)) (map (λ c. E.Column c ∷ []) (instants a (length rest))) ≡ rest
columns_kinds before [] a long = refl
columns_kinds before (k ∷ ks) a long =
    let here = get_or_at before k ks Whole a long in
    let others = columns_kinds (before ++ k ∷ []) ks (suc a) (let more = length_push before k in omega (arith, more, long)) in
    let same = subst (λ l. map (λ e. kind_of e l) (map (λ c. E.Column c ∷ []) (instants (suc a) (length ks))) ≡ ks) (append_assoc before (k ∷ []) ks) others in
    λ i. here i ∷ same i

-- the columns of a schema, and literals of the kinds of the right columns outside the key
record AreItems (d : Draft) (at : ℕ) (s : PlannedSides) (fills : List (List ExprNode)) : Type 0 where
  typed : All (IsExprOver (kinds_at d.schemas at)) (columns_alone (length (schema_at d at)) ++ fills)
  same : kinds_of_schema (joined d at s) ≡ map (λ e. kind_of e (kinds_at d.schemas at)) (columns_alone (length (schema_at d at)) ++ fills)

items_are : (d : Draft) (at : ℕ) (s : PlannedSides) (trees : List (List TreeNode)) (fills : List (List ExprNode)) (types : List Kind) → tree_exprs (schema_at d at) trees ≡ Some fills → tree_types (schema_at d at) trees ≡ Some types →
    fills_fit (schema_at d s.right) s.right_key types ≡ true → AreItems d at s fills
items_are d at s trees fills types named typed fit =
    let l = kinds_at d.schemas at in
    let long : length l ≡ length (schema_at d at) = length-map (schema_at d at) (λ (c : ColumnDef). cell_kind_of c.kind) in
    let told = tree_types-typed (schema_at d at) trees fills types named typed in
    let right : outside_key s.right_key (kinds_at d.schemas s.right) ≡ map cell_kind_of types = fills_fit-same (schema_at d s.right) s.right_key types fit in
    record {
      typed = All-append (IsExprOver l) (columns_alone (length (schema_at d at))) fills (subst (λ n. All (IsExprOver l) (columns_alone n)) long (columns_typed [] l 0 refl)) told.0;
      same = kinds-join_schema (schema_at d at) (schema_at d s.right) s.right_key
          ∙ (ap (λ r. l ++ r) (right ∙ sym told.1)
          ∙ (ap (λ k. k ++ map (λ e. kind_of e l) fills) (sym (subst (λ n. map (λ e. kind_of e l) (columns_alone n) ≡ l) long (columns_kinds [] l 0 refl)))
          ∙ sym (map-append (λ e. kind_of e l) (columns_alone (length (schema_at d at))) fills)));
    }

pub left_fit : (streams : List StreamDef) (d : Draft) (at : ℕ) (s : PlannedSides) (trees : List (List TreeNode)) (fills : List (List ExprNode)) (types : List Kind) → at < length d.nodes → length d.schemas ≡ length d.nodes → AreSides d at s →
    tree_exprs (schema_at d at) trees ≡ Some fills → tree_types (schema_at d at) trees ≡ Some types → fills_fit (schema_at d s.right) s.right_key types ≡ true →
    AllFit streams d.nodes d.schemas (left_nodes d at s (length d.nodes) fills)
left_fit streams d at s trees fills types low one_each are named typed fit =
    let n = length d.nodes in
    let join = join_node d at s in
    let group = key_group d s in
    let anti = anti_node d at s (n + 1) in
    let filled = filled_node d at s (n + 2) fills in
    let items = items_are d at s trees fills types named typed fit in
    let right_low = are.low in
    let nodes1 = d.nodes ++ join.node ∷ [] in
    let schemas1 = d.schemas ++ join.schema ∷ [] in
    let long1 : length nodes1 ≡ n + 1 = length_push d.nodes join.node in
    let as_long1 : length schemas1 ≡ n + 1 = (let l = length_push d.schemas join.schema in omega (arith, l, one_each)) in
    let nodes2 = nodes1 ++ group.node ∷ [] in
    let schemas2 = schemas1 ++ group.schema ∷ [] in
    let long2 : length nodes2 ≡ n + 2 = (let l = length_push nodes1 group.node in omega (arith, l, long1)) in
    let as_long2 : length schemas2 ≡ n + 2 = (let l = length_push schemas1 group.schema in omega (arith, l, as_long1)) in
    let nodes3 = nodes2 ++ anti.node ∷ [] in
    let schemas3 = schemas2 ++ anti.schema ∷ [] in
    let long3 : length nodes3 ≡ n + 3 = (let l = length_push nodes2 anti.node in omega (arith, l, long2)) in
    let as_long3 : length schemas3 ≡ n + 3 = (let l = length_push schemas2 anti.schema in omega (arith, l, as_long2)) in
    let nodes4 = nodes3 ++ filled.node ∷ [] in
    let schemas4 = schemas3 ++ filled.schema ∷ [] in
    let long4 : length nodes4 ≡ n + 4 = (let l = length_push nodes3 filled.node in omega (arith, l, long3)) in
    let at1 : kinds_at schemas1 at ≡ kinds_at d.schemas at = kinds_grow d.schemas join.schema at (omega (arith, low, one_each)) in
    let right1 : kinds_at schemas1 s.right ≡ kinds_at d.schemas s.right = kinds_grow d.schemas join.schema s.right (omega (arith, right_low, one_each)) in
    let join1 : kinds_at schemas1 n ≡ kinds_of_schema join.schema = kinds_of_last d.schemas join.schema n one_each in
    let join2 : kinds_at schemas2 n ≡ kinds_at schemas1 n = kinds_grow schemas1 group.schema n (omega (arith, as_long1)) in
    let join3 : kinds_at schemas3 n ≡ kinds_at schemas2 n = kinds_grow schemas2 anti.schema n (omega (arith, as_long2)) in
    let join4 : kinds_at schemas4 n ≡ kinds_at schemas3 n = kinds_grow schemas3 filled.schema n (omega (arith, as_long3)) in
    let anti3 : kinds_at schemas3 (n + 2) ≡ kinds_at d.schemas at = kinds_of_last schemas2 anti.schema (n + 2) as_long2 in
    let filled4 : kinds_at schemas4 (n + 3) ≡ kinds_of_schema join.schema = kinds_of_last schemas3 filled.schema (n + 3) as_long3 in
    let joined4 : kinds_at schemas4 n ≡ kinds_of_schema join.schema = join4 ∙ (join3 ∙ (join2 ∙ join1)) in (
      join_fit streams d at s low are,
      (
        group_fit streams d at s nodes1 schemas1 are (omega (arith, right_low, long1)) right1,
        (
          anti_fit streams d at s (n + 1) nodes1 schemas1 are long1 as_long1 (omega (arith, low, long1)) at1,
          (
            record {
              left_lower = omega (arith, long3);
              right_lower = tt;
              streamed = tt;
              over_events = calm nodes3 filled.node refl refl;
              sound = subst (λ l. All (IsExprOver l) (columns_alone (length (schema_at d at)) ++ fills)) (sym anti3) items.typed;
              kinds = items.same ∙ ap (λ l. map (λ e. kind_of e l) (columns_alone (length (schema_at d at)) ++ fills)) (sym anti3);
              partnered = tt;
              counted = tt;
            },
            (
              record {
                left_lower = omega (arith, long4);
                right_lower = omega (arith, long4);
                streamed = tt;
                over_events = calm nodes4 (Union n (n + 3)) refl refl;
                sound = joined4 ∙ sym filled4;
                kinds = sym joined4;
                partnered = tt;
                counted = tt;
              },
              tt,
            ),
          ),
        ),
      ),
    )
