-- The table of texts, expression by expression.
use Rattle.std.proofs.Common.{Result, Ok, Err, OnErr, ◌≡◌, ◌∙◌, ◌+◌, ℕ, zero, suc, List, [], ◌∷◌, ◌++◌, length, take, drop, refl, ap, sym, append-nil, append_assoc}
use Rattle.std.proofs.Math.Seq.{take-append-add, take-length}
use Rattle.std.proofs.lemmas.List.{take-append-drop}
use Rattle.std.proofs.lemmas.List.Sums.{fold-append}
use Rattle.std.proofs.lemmas.Grind.{flat_map-append}
use Rattle.plan_model.specs.declared.expr.ExprNode.{ExprNode}
use Rattle.lane_expr.specs.Steps.{with_node, with_texts}
use Rattle.where_select.specs.Texts.{nodes_of_items, HasFirstTexts}

-- a prefix of a list is one of a longer list
prefix_of : (k : ℕ) (xs ys : List ExprNode) → (m : ℕ) × (take m (xs ++ ys) ≡ take k xs)
prefix_of zero xs ys = (0, refl)
prefix_of (suc k) [] ys = (0, refl)
prefix_of (suc k) (x ∷ xs) ys = let below = prefix_of k xs ys in (suc below.0, ap (λ l. x ∷ l) below.1)

-- all texts are the first ones, too
pub all_first : (new old : List (List ℕ)) (nodes : List ExprNode) → new ≡ with_texts old nodes → HasFirstTexts new old nodes
all_first new old nodes e = (length nodes, e ∙ ap (with_texts old) (sym (take-length nodes)))

-- the texts of nodes, and those of more nodes
pub texts_next : (old texts : List (List ℕ)) (front more : List ExprNode) → texts ≡ with_texts old front → with_texts texts more ≡ with_texts old (front ++ more)
texts_next old texts front more e = ap (λ t. with_texts t more) e ∙ sym (fold-append with_node old front more)

pub first_next : (new old texts : List (List ℕ)) (front more rest : List ExprNode) → texts ≡ with_texts old front → HasFirstTexts new texts more → HasFirstTexts new old (front ++ (more ++ rest))
first_next new old texts front more rest e first =
    let within = prefix_of first.0 more rest in (
      length front + within.0,
      first.1 ∙ texts_next old texts front (take first.0 more) e ∙ ap (λ l. with_texts old (front ++ l)) (sym within.1) ∙ ap (with_texts old) (sym (take-append-add front (more ++ rest) within.0)),
    )

-- the nodes of the items up to one, its own, and those after it
pub items_push : (items : List (List ExprNode)) (item : List ExprNode) → nodes_of_items (items ++ item ∷ []) ≡ nodes_of_items items ++ item
items_push items item = flat_map-append (λ i. i) items (item ∷ []) ∙ ap (λ l. nodes_of_items items ++ l) (append-nil item)

pub items_parts : (items : List (List ExprNode)) (i : ℕ) (item : List ExprNode) → take (i + 1) items ≡ take i items ++ item ∷ [] → nodes_of_items items ≡ nodes_of_items (take i items) ++ (item ++ nodes_of_items (drop (i + 1) items))
items_parts items i item next =
    ap nodes_of_items (sym (take-append-drop (i + 1) items))
    ∙ flat_map-append (λ x. x) (take (i + 1) items) (drop (i + 1) items)
    ∙ ap (λ l. l ++ nodes_of_items (drop (i + 1) items)) (ap nodes_of_items next ∙ items_push (take i items) item)
    ∙ append_assoc (nodes_of_items (take i items)) item (nodes_of_items (drop (i + 1) items))

-- what holds anyway holds after an Err
pub on_err : {A E : Type 0} (r : Result A E) (P : Type 0) → P → OnErr r P
on_err (Ok a) P p = tt
on_err (Err e) P p = p
