-- Names of columns, and what they stand for over the columns of a schema.
use Rattle.std.specs.Prelude.{ℕ, suc, nat_eq, if◌then◌else◌, Option, Some, None, option_map, option_and_then, List, [], ◌∷◌, map}
use lib.Pointwise.{pointwise}
use Rattle.tw_rows.specs.declared.schema.ColumnDef.{ColumnDef}
use Rattle.plan_model.specs.declared.agg.Agg.{Agg}
use Rattle.plan_model.specs.declared.agg.Agg.TheVariants as A
use Rattle.plan_model.specs.declared.expr.ExprNode.{ExprNode}
use Rattle.plan_model.specs.declared.expr.ExprNode.TheVariants as E
use Rattle.query_text.specs.declared.query.AggFun.{AggFun}
use Rattle.query_text.specs.declared.query.AggFun.TheVariants as F
use Rattle.query_text.specs.declared.query.QueryAgg.{QueryAgg}
use Rattle.query_text.specs.declared.query.Item.{Item}
use Rattle.query_text.specs.declared.tree.TreeNode.{TreeNode}
use Rattle.query_text.specs.declared.tree.TreeNode.TheVariants as N

-- the number of the first column of that name, where the first of all has number i
abbrev pub column_from : ℕ → List ColumnDef → List ℕ → Option ℕ
column_from i [] name = None
column_from i (c ∷ cs) name = if pointwise nat_eq c.name name then Some i else column_from (suc i) cs name

-- the number of the column of that name, counted from 0. Among sym, px, qty it is 2 for qty, and there is none for q
abbrev pub column_of : List ColumnDef → List ℕ → Option ℕ
column_of schema name = column_from 0 schema name

-- all that are told, or nothing where one of them is missing
abbrev pub all_of : {X : Type 0} → List (Option X) → Option (List X)
all_of [] = Some []
all_of (None ∷ xs) = None
all_of (Some x ∷ xs) = option_map (λ ys. x ∷ ys) (all_of xs)

-- the numbers of the columns of these names, in order. Of qty, sym among sym, px, qty: 2, 0
abbrev pub key_of : List ColumnDef → List (List ℕ) → Option (List ℕ)
key_of schema names = all_of (map (column_of schema) names)

-- the node with the number of the column in place of its name. A decimal is the number of its units: 1.50 is 150
abbrev pub node_of : List ColumnDef → TreeNode → Option ExprNode
node_of schema (N.Name name) = option_map (λ c. E.Column c) (column_of schema name)
node_of schema (N.Int x) = Some (E.Int x)
node_of schema (N.Dec units places) = Some (E.Int units)
node_of schema (N.Bool b) = Some (E.Bool b)
node_of schema (N.Text text) = Some (E.Text text)
node_of schema (N.Neg of) = Some (E.Neg of)
node_of schema (N.Not of) = Some (E.Not of)
node_of schema (N.Arith op left right) = Some (E.Arith op left right)
node_of schema (N.Div of by) = Some (E.Div of by)
node_of schema (N.Mod of by) = Some (E.Mod of by)
node_of schema (N.Compare op left right) = Some (E.Compare op left right)
node_of schema (N.And left right) = Some (E.And left right)
node_of schema (N.Or left right) = Some (E.Or left right)

-- the expression of a tree over the columns of a schema; none where a name is no column's
abbrev pub expr_of : List ColumnDef → List TreeNode → Option (List ExprNode)
expr_of schema tree = all_of (map (node_of schema) tree)

-- the expressions of the items of a select
abbrev pub exprs_of : List ColumnDef → List Item → Option (List (List ExprNode))
exprs_of schema items = all_of (map (λ i. expr_of schema i.tree) items)

-- the expressions of several trees, as of the literals of a `left`
abbrev pub tree_exprs : List ColumnDef → List (List TreeNode) → Option (List (List ExprNode))
tree_exprs schema trees = all_of (map (expr_of schema) trees)

-- the aggregate of that column. Only a count does without one. An average is the sum that is divided later
abbrev pub agg_over : AggFun → Option ℕ → Option Agg
agg_over F.Count column = Some A.Count
agg_over F.Sum column = option_map (λ c. A.Sum c) column
agg_over F.Min column = option_map (λ c. A.Least c) column
agg_over F.Max column = option_map (λ c. A.Greatest c) column
agg_over F.Avg column = option_map (λ c. A.Sum c) column

-- the aggregates of a group over the columns of a schema; none where a name is no column's
abbrev pub agg_of : List ColumnDef → QueryAgg → Option Agg
agg_of schema a = agg_over a.fun (option_and_then (column_of schema) a.column)

abbrev pub aggs_of : List ColumnDef → List QueryAgg → Option (List Agg)
aggs_of schema aggs = all_of (map (agg_of schema) aggs)
