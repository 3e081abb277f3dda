-- The expression of a tree keeps the tree's rule.
use Rattle.std.proofs.Common.{◌≡◌, ℕ, suc, Option, Some, None, List, [], ◌∷◌, map, length, refl, ap, sym, subst, arith}
use Rattle.tw_rows.specs.declared.schema.ColumnDef.{ColumnDef}
use Rattle.plan_model.specs.declared.expr.ExprNode.{ExprNode}
use Rattle.std.specs.Prelude.{option_map}
use Rattle.plan_model.specs.declared.expr.ExprNode.TheVariants as E
use Rattle.plan_model.specs.IsExpr.{IsExprNode, AreExprNodes, IsExpr}
use Rattle.query_text.specs.declared.tree.TreeNode.{TreeNode}
use Rattle.query_text.specs.declared.tree.TreeNode.TheVariants as N
use Rattle.query_text.specs.IsTree.{IsTreeNode, AreTreeNodes, IsTree}
use Rattle.query_text.specs.declared.query.Item.{Item}
use Rattle.tw_rows.specs.declared.kind.Kind.{Kind}
use Rattle.query_plan.specs.Names.{column_of, all_of, node_of, expr_of}
use Rattle.query_plan.specs.Types.{type_of}

IfSomeNode : ℕ → Option ExprNode → Type 0
IfSomeNode i None = Unit {0}
IfSomeNode i (Some n) = IsExprNode i n

column_node : (i : ℕ) (c : Option ℕ) → IfSomeNode i (option_map (λ k. E.Column k) c)
unfolding IfSomeNode
column_node i None = tt
column_node i (Some k) = tt

node_kept : (schema : List ColumnDef) (i : ℕ) (t : TreeNode) → IsTreeNode i t → IfSomeNode i (node_of schema t)
unfolding IfSomeNode
node_kept schema i (N.Name name) h = column_node i (column_of schema name)
node_kept schema i (N.Int x) h = tt
node_kept schema i (N.Dec units places) h = tt
node_kept schema i (N.Bool b) h = tt
node_kept schema i (N.Text text) h = h
node_kept schema i (N.Neg of) h = h
node_kept schema i (N.Not of) h = h
node_kept schema i (N.Arith op left right) h = h
node_kept schema i (N.Div of by) h = h
node_kept schema i (N.Mod of by) h = h
node_kept schema i (N.Compare op left right) h = h
node_kept schema i (N.And left right) h = h
node_kept schema i (N.Or left right) h = h

IfAllNodes : ℕ → ℕ → Option (List ExprNode) → Type 0
IfAllNodes size i None = Unit {0}
IfAllNodes size i (Some ns) = (length ns ≡ size) × AreExprNodes i ns

one_more : (size i : ℕ) (n : Option ExprNode) (ns : List (Option ExprNode)) (r : Option (List ExprNode)) → all_of ns ≡ r → IfSomeNode i n → IfAllNodes size (suc i) r → IfAllNodes (suc size) i (all_of (n ∷ ns))
unfolding IfSomeNode IfAllNodes
one_more size i None ns r e p q = tt
one_more size i (Some n) ns None e p q = rw e tt
one_more size i (Some n) ns (Some more) e p q = rw e (ap suc q.0, (p, q.1))

all_kept : (schema : List ColumnDef) (i : ℕ) (ts : List TreeNode) → AreTreeNodes i ts → IfAllNodes (length ts) i (expr_of schema ts)
unfolding IfAllNodes
all_kept schema i [] h = (refl, tt)
all_kept schema i (t ∷ ts) h = one_more (length ts) i (node_of schema t) (map (node_of schema) ts) (expr_of schema ts) refl (node_kept schema i t h.0) (all_kept schema (suc i) ts h.1)

-- the nodes of a tree's expression are an expression's
pub expr_kept : (schema : List ColumnDef) (tree : List TreeNode) (nodes : List ExprNode) → IsTree tree → Some nodes ≡ expr_of schema tree → IsExpr nodes
unfolding IfAllNodes
expr_kept schema tree nodes h e =
    let k = subst (IfAllNodes (length tree) 0) (sym e) (all_kept schema 0 tree h.1) in
    (omega (arith, k.0, h.0), k.1)

-- the expression of an item
abbrev pub item_expr : List ColumnDef → Item → Option (List ExprNode)
item_expr schema i = expr_of schema i.tree

-- the kind of the tree of an item
abbrev pub item_type : List ColumnDef → Item → Option Kind
item_type schema i = type_of schema i.tree
