-- The nodes that steps stand for: their kinds and rules do not depend on the texts.
use Rattle.std.proofs.Common.{◌≡◌, ℕ, zero, suc, ◌+◌, ◌-◌, ◌<◌, List, [], ◌∷◌, ◌++◌, map, length, get_or, refl, ap, sym, ◌∙◌, subst, arith, zero-add, append_assoc, append-nil, take}
use Rattle.std.proofs.lemmas.List.{length-map, length-append, map-append, get_or_append_left, get_or-map}
use Rattle.std.proofs.lemmas.List.Sums.{fold-append}
use Rattle.std.proofs.lemmas.List.Elements.{All-nil}
use Rattle.tw_rows.specs.declared.cells.Datum.TheVariants.{Int as IntDatum, Bool as FlagDatum, Text as PlaceDatum}
use Rattle.tw_rows.specs.declared.kind.CellKind.{CellKind}
use Rattle.tw_rows.specs.declared.kind.CellKind.TheVariants.{Whole}
use Rattle.plan_model.specs.declared.expr.ExprNode.{ExprNode}
use Rattle.plan_model.specs.declared.expr.ExprNode.TheVariants.{Text}
use Rattle.tw_rows.specs.Texts.{BeginsWith}
use Rattle.plan_model.specs.IsExpr.{IsExprNode, AreExprNodes, IsExpr}
use Rattle.lane_expr.specs.declared.step.Step.{Step}
use Rattle.lane_expr.specs.declared.step.Step.TheVariants.{Column, Constant, Neg, Not, Arith, Div, Mod, Compare, And, Or}
use Rattle.plan_model.specs.Typed.{node_kind, IsTypedNode, AreTyped, IsTyped, kind_of}
use Rattle.lane_expr.specs.Steps.{node_of, expr_of, step_kind, IsStepPlaced, AreStepsPlaced, IsStepWithin, AreSteps, with_node, with_texts}

pub node_kind-texts : (columns : List CellKind) (texts : List (List ℕ)) (s : Step) → node_kind columns (node_of texts s) ≡ step_kind columns s
node_kind-texts columns texts (Column c) = refl
node_kind-texts columns texts (Constant (IntDatum x)) = refl
node_kind-texts columns texts (Constant (FlagDatum b)) = refl
node_kind-texts columns texts (Constant (PlaceDatum id)) = refl
node_kind-texts columns texts (Neg of) = refl
node_kind-texts columns texts (Not of) = refl
node_kind-texts columns texts (Arith op l r) = refl
node_kind-texts columns texts (Div of by) = refl
node_kind-texts columns texts (Mod of by) = refl
node_kind-texts columns texts (Compare op l r) = refl
node_kind-texts columns texts (And l r) = refl
node_kind-texts columns texts (Or l r) = refl

pub kinds-texts : (columns : List CellKind) (texts : List (List ℕ)) (ss : List Step) → map (node_kind columns) (expr_of texts ss) ≡ map (step_kind columns) ss
kinds-texts columns texts [] = refl
kinds-texts columns texts (s ∷ ss) = rw (node_kind-texts columns texts s) (ap (λ ks. step_kind columns s ∷ ks) (kinds-texts columns texts ss))

IsTypedNode-texts : (columns before : List CellKind) (texts : List (List ℕ)) (s : Step) → IsTypedNode columns before (node_of texts s) → IsTypedNode columns before (node_of [] s)
IsTypedNode-texts columns before texts (Column c) h = h
IsTypedNode-texts columns before texts (Constant (IntDatum x)) h = h
IsTypedNode-texts columns before texts (Constant (FlagDatum b)) h = h
IsTypedNode-texts columns before texts (Constant (PlaceDatum id)) h = h
IsTypedNode-texts columns before texts (Neg of) h = h
IsTypedNode-texts columns before texts (Not of) h = h
IsTypedNode-texts columns before texts (Arith op l r) h = h
IsTypedNode-texts columns before texts (Div of by) h = h
IsTypedNode-texts columns before texts (Mod of by) h = h
IsTypedNode-texts columns before texts (Compare op l r) h = h
IsTypedNode-texts columns before texts (And l r) h = h
IsTypedNode-texts columns before texts (Or l r) h = h

AreTyped-texts : (columns before : List CellKind) (texts : List (List ℕ)) (ss : List Step) → AreTyped columns before (expr_of texts ss) → AreTyped columns before (expr_of [] ss)
AreTyped-texts columns before texts [] h = h
AreTyped-texts columns before texts (s ∷ ss) h =
    let rest = subst (λ k. AreTyped columns (before ++ k ∷ []) (expr_of texts ss)) (node_kind-texts columns texts s) h.1 in
    (IsTypedNode-texts columns before texts s h.0, AreTyped-texts columns (before ++ step_kind columns s ∷ []) texts ss rest)

IsExprNode-texts : (texts : List (List ℕ)) (i : ℕ) (s : Step) → IsExprNode i (node_of texts s) → IsExprNode i (node_of [] s)
IsExprNode-texts texts i (Column c) h = h
IsExprNode-texts texts i (Constant (IntDatum x)) h = h
IsExprNode-texts texts i (Constant (FlagDatum b)) h = h
IsExprNode-texts texts i (Constant (PlaceDatum id)) h = All-nil _
IsExprNode-texts texts i (Neg of) h = h
IsExprNode-texts texts i (Not of) h = h
IsExprNode-texts texts i (Arith op l r) h = h
IsExprNode-texts texts i (Div of by) h = h
IsExprNode-texts texts i (Mod of by) h = h
IsExprNode-texts texts i (Compare op l r) h = h
IsExprNode-texts texts i (And l r) h = h
IsExprNode-texts texts i (Or l r) h = h

AreExprNodes-texts : (texts : List (List ℕ)) (i : ℕ) (ss : List Step) → AreExprNodes i (expr_of texts ss) → AreExprNodes i (expr_of [] ss)
AreExprNodes-texts texts i [] h = h
AreExprNodes-texts texts i (s ∷ ss) h = (IsExprNode-texts texts i s h.0, AreExprNodes-texts texts (suc i) ss h.1)

pub length-expr_of : (texts : List (List ℕ)) (ss : List Step) → length (expr_of texts ss) ≡ length ss
length-expr_of texts ss = length-map ss (node_of texts)

-- the steps that stand for a well-typed expression
pub AreSteps-compiled : (columns : List CellKind) (texts : List (List ℕ)) (ss : List Step) (expr : List ExprNode) → expr_of texts ss ≡ expr → IsExpr expr → IsTyped columns expr → AreSteps columns ss
AreSteps-compiled columns texts ss expr same is typed =
    let e : IsExpr (expr_of texts ss) = subst IsExpr (sym same) is in
    let t : IsTyped columns (expr_of texts ss) = subst (IsTyped columns) (sym same) typed in
    let long = length-expr_of texts ss in
    let short = length-expr_of [] ss in
    record {
      expr = (omega (arith, e.0, long, short), AreExprNodes-texts texts 0 ss e.1);
      typed = AreTyped-texts columns [] texts ss t;
    }

-- the kind of the last step
pub kind_of-last : (columns : List CellKind) (ss : List Step) (d : Step) → 0 < length ss → step_kind columns (get_or ss (length ss - 1) d) ≡ kind_of (expr_of [] ss) columns
kind_of-last columns ss d some =
    let low : length ss - 1 < length ss = omega (arith, some) in
    sym (get_or-map (step_kind columns) ss (length ss - 1) d Whole low)
    ∙ ap (λ ks. get_or ks (length ss - 1) Whole) (sym (kinds-texts columns [] ss))
    ∙ ap (λ n. get_or (map (node_kind columns) (expr_of [] ss)) (n - 1) Whole) (sym (length-expr_of [] ss))

pub AreSteps-some : (columns : List CellKind) (ss : List Step) → AreSteps columns ss → 0 < length ss
AreSteps-some columns ss h = let long = length-expr_of [] ss in omega (arith, h.expr.0, long)

pub kind_of-texts : (columns : List CellKind) (texts : List (List ℕ)) (ss : List Step) → kind_of (expr_of [] ss) columns ≡ kind_of (expr_of texts ss) columns
kind_of-texts columns texts ss =
    let long : length (expr_of [] ss) ≡ length (expr_of texts ss) = length-expr_of [] ss ∙ sym (length-expr_of texts ss) in
    ap (λ ks. get_or ks (length (expr_of [] ss) - 1) Whole) (kinds-texts columns [] ss ∙ sym (kinds-texts columns texts ss))
    ∙ ap (λ n. get_or (map (node_kind columns) (expr_of texts ss)) (n - 1) Whole) long

within_node : (columns before : List CellKind) (s : Step) → IsTypedNode columns before (node_of [] s) → IsStepWithin columns s
within_node columns before (Column c) h = h
within_node columns before (Constant d) h = tt
within_node columns before (Neg of) h = tt
within_node columns before (Not of) h = tt
within_node columns before (Arith op l r) h = tt
within_node columns before (Div of by) h = tt
within_node columns before (Mod of by) h = tt
within_node columns before (Compare op l r) h = tt
within_node columns before (And l r) h = tt
within_node columns before (Or l r) h = tt

-- a column that a typed step names is there
within_from : (columns before : List CellKind) (ss : List Step) (k : ℕ) (d : Step) → AreTyped columns before (expr_of [] ss) → k < length ss → IsStepWithin columns (get_or ss k d)
within_from columns before [] k d h lt = absurd (omega arith)
within_from columns before (s ∷ ss) zero d h lt = within_node columns before s h.0
within_from columns before (s ∷ ss) (suc k) d h lt = within_from columns (before ++ step_kind columns s ∷ []) ss k d h.1 (omega arith)

pub IsStepWithin-at : (columns : List CellKind) (ss : List Step) (k : ℕ) (d : Step) → AreSteps columns ss → k < length ss → IsStepWithin columns (get_or ss k d)
IsStepWithin-at columns ss k d h lt = within_from columns [] ss k d h.typed lt

rule_from : (first : ℕ) (ss : List Step) (k : ℕ) (d : Step) → AreExprNodes first (expr_of [] ss) → k < length ss → IsExprNode (first + k) (node_of [] (get_or ss k d))
rule_from first [] k d h lt = absurd (omega arith)
rule_from first (s ∷ ss) zero d h lt =
    let same : first ≡ first + 0 = omega arith in
    subst (λ n. IsExprNode n (node_of [] s)) same h.0
rule_from first (s ∷ ss) (suc k) d h lt =
    let next : suc first + k ≡ first + suc k = omega arith in
    subst (λ n. IsExprNode n (node_of [] (get_or ss k d))) next (rule_from (suc first) ss k d h.1 (omega arith))

-- each step has its operands before it
pub IsExprNode-step : (columns : List CellKind) (ss : List Step) (k : ℕ) (d : Step) → AreSteps columns ss → k < length ss → IsExprNode k (node_of [] (get_or ss k d))
IsExprNode-step columns ss k d h lt = subst (λ n. IsExprNode n (node_of [] (get_or ss k d))) (zero-add k) (rule_from 0 ss k d h.expr.1 lt)

-- a step of a table keeps its node and its place in a longer one
node_of-more : (texts more : List (List ℕ)) (s : Step) → IsStepPlaced texts s → node_of (texts ++ more) s ≡ node_of texts s
node_of-more texts more (Column c) h = refl
node_of-more texts more (Constant (IntDatum x)) h = refl
node_of-more texts more (Constant (FlagDatum b)) h = refl
node_of-more texts more (Constant (PlaceDatum id)) h = ap Text (get_or_append_left texts more [] id h)
node_of-more texts more (Neg of) h = refl
node_of-more texts more (Not of) h = refl
node_of-more texts more (Arith op l r) h = refl
node_of-more texts more (Div of by) h = refl
node_of-more texts more (Mod of by) h = refl
node_of-more texts more (Compare op l r) h = refl
node_of-more texts more (And l r) h = refl
node_of-more texts more (Or l r) h = refl

IsStepPlaced-more : (texts more : List (List ℕ)) (s : Step) → IsStepPlaced texts s → IsStepPlaced (texts ++ more) s
IsStepPlaced-more texts more (Column c) h = tt
IsStepPlaced-more texts more (Constant (IntDatum x)) h = tt
IsStepPlaced-more texts more (Constant (FlagDatum b)) h = tt
IsStepPlaced-more texts more (Constant (PlaceDatum id)) h = let long = length-append texts more in omega (arith, h, long)
IsStepPlaced-more texts more (Neg of) h = tt
IsStepPlaced-more texts more (Not of) h = tt
IsStepPlaced-more texts more (Arith op l r) h = tt
IsStepPlaced-more texts more (Div of by) h = tt
IsStepPlaced-more texts more (Mod of by) h = tt
IsStepPlaced-more texts more (Compare op l r) h = tt
IsStepPlaced-more texts more (And l r) h = tt
IsStepPlaced-more texts more (Or l r) h = tt

pub expr_of-more : (texts more : List (List ℕ)) (ss : List Step) → AreStepsPlaced texts ss → expr_of (texts ++ more) ss ≡ expr_of texts ss
expr_of-more texts more [] h = refl
expr_of-more texts more (s ∷ ss) h = rw (node_of-more texts more s h.0) (ap (λ ns. node_of texts s ∷ ns) (expr_of-more texts more ss h.1))

pub AreStepsPlaced-more : (texts more : List (List ℕ)) (ss : List Step) → AreStepsPlaced texts ss → AreStepsPlaced (texts ++ more) ss
AreStepsPlaced-more texts more [] h = tt
AreStepsPlaced-more texts more (s ∷ ss) h = (IsStepPlaced-more texts more s h.0, AreStepsPlaced-more texts more ss h.1)

AreStepsPlaced-push : (texts : List (List ℕ)) (ss : List Step) (s : Step) → AreStepsPlaced texts ss → IsStepPlaced texts s → AreStepsPlaced texts (ss ++ s ∷ [])
AreStepsPlaced-push texts [] s h p = (p, tt)
AreStepsPlaced-push texts (x ∷ ss) s h p = (h.0, AreStepsPlaced-push texts ss s h.1 p)

-- the nodes once one more is compiled, where the table grew
pub nodes_next : (texts new : List (List ℕ)) (ss : List Step) (s : Step) (nodes : List ExprNode) (n : ExprNode) → BeginsWith new texts → AreStepsPlaced texts ss → expr_of texts ss ≡ nodes → node_of new s ≡ n → expr_of new (ss ++ s ∷ []) ≡ nodes ++ n ∷ []
nodes_next texts new ss s nodes n begins placed same is =
    map-append (node_of new) ss (s ∷ [])
    ∙ ap (λ m. expr_of new ss ++ m ∷ []) is
    ∙ ap (λ ns. ns ++ n ∷ []) (ap (λ t. expr_of t ss) begins.1 ∙ expr_of-more texts begins.0 ss placed ∙ same)

pub placed_next : (texts new : List (List ℕ)) (ss : List Step) (s : Step) → BeginsWith new texts → AreStepsPlaced texts ss → IsStepPlaced new s → AreStepsPlaced new (ss ++ s ∷ [])
placed_next texts new ss s begins placed is =
    AreStepsPlaced-push new ss s (subst (λ t. AreStepsPlaced t ss) (sym begins.1) (AreStepsPlaced-more texts begins.0 ss placed)) is

pub with_texts-next : (old texts : List (List ℕ)) (nodes : List ExprNode) (n : ExprNode) → texts ≡ with_texts old nodes → with_node texts n ≡ with_texts old (nodes ++ n ∷ [])
with_texts-next old texts nodes n e = ap (λ t. with_node t n) e ∙ sym (fold-append with_node old nodes (n ∷ []))

pub BeginsWith-trans : (new texts old : List (List ℕ)) → BeginsWith new texts → BeginsWith texts old → BeginsWith new old
BeginsWith-trans new texts old a b = (b.0 ++ a.0, a.1 ∙ ap (λ t. t ++ a.0) b.1 ∙ append_assoc old b.0 a.0)

pub IsStepPlaced-at : (texts : List (List ℕ)) (ss : List Step) (k : ℕ) (d : Step) → AreStepsPlaced texts ss → k < length ss → IsStepPlaced texts (get_or ss k d)
IsStepPlaced-at texts [] k d h lt = absurd (omega arith)
IsStepPlaced-at texts (s ∷ ss) zero d h lt = h.0
IsStepPlaced-at texts (s ∷ ss) (suc k) d h lt = IsStepPlaced-at texts ss k d h.1 (omega arith)

typed_from : (columns before : List CellKind) (ss : List Step) (k : ℕ) (d : Step) → AreTyped columns before (expr_of [] ss) → k < length ss → IsTypedNode columns (before ++ map (step_kind columns) (take k ss)) (node_of [] (get_or ss k d))
typed_from columns before [] k d h lt = absurd (omega arith)
typed_from columns before (s ∷ ss) zero d h lt = subst (λ ks. IsTypedNode columns ks (node_of [] s)) (sym (append-nil before)) h.0
typed_from columns before (s ∷ ss) (suc k) d h lt =
    subst (λ ks. IsTypedNode columns ks (node_of [] (get_or ss k d))) (append_assoc before (step_kind columns s ∷ []) (map (step_kind columns) (take k ss)))
    (typed_from columns (before ++ step_kind columns s ∷ []) ss k d h.1 (omega arith))

-- each step has operands of the kinds that it takes
pub IsTypedNode-step : (columns : List CellKind) (ss : List Step) (k : ℕ) (d : Step) → AreSteps columns ss → k < length ss → IsTypedNode columns (map (step_kind columns) (take k ss)) (node_of [] (get_or ss k d))
IsTypedNode-step columns ss k d h lt = typed_from columns [] ss k d h.typed lt
