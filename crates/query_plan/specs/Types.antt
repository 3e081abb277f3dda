-- The kinds of expressions, and where kinds clash.
use Rattle.std.specs.Prelude.{ℕ, ◌-◌, nat_eq, Bool, true, false, ◌&&◌, if◌then◌else◌, Option, Some, None, option_and_then, List, [], ◌∷◌, ◌++◌, map, length, slice_get}
use Rattle.tw_rows.specs.declared.kind.Kind.{Kind}
use Rattle.tw_rows.specs.declared.kind.Kind.TheVariants as K
use Rattle.tw_rows.specs.declared.schema.ColumnDef.{ColumnDef}
use Rattle.plan_model.specs.declared.expr.ArithOp.{ArithOp}
use Rattle.plan_model.specs.declared.expr.ArithOp.TheVariants as A
use Rattle.query_text.specs.declared.query.Item.{Item}
use Rattle.query_text.specs.declared.tree.TreeNode.{TreeNode}
use Rattle.query_text.specs.declared.tree.TreeNode.TheVariants as N
use Rattle.query_plan.specs.Names.{all_of, column_of}

-- whether two kinds are one. Decimals of 2 and of 3 places are two kinds
abbrev pub same_kind : Kind → Kind → Bool
same_kind K.Int K.Int = true
same_kind K.Bool K.Bool = true
same_kind K.Text K.Text = true
same_kind (K.Dec a) (K.Dec b) = nat_eq a b
same_kind a b = false

-- whether the values of a kind are numbers
abbrev pub is_number : Kind → Bool
is_number K.Int = true
is_number K.Bool = false
is_number K.Text = false
is_number (K.Dec places) = true

-- the kinds of the columns of a schema
abbrev pub kinds : List ColumnDef → List Kind
kinds schema = map (λ c. c.kind) schema

-- `given`, where there is an operand and it is of the kind
abbrev pub if_kind : Kind → Option Kind → Option Kind → Option Kind
if_kind wanted None given = None
if_kind wanted (Some k) given = if same_kind k wanted then given else None

-- `given`, where there are both operands and they are of one kind
abbrev pub if_alike : Option Kind → Option Kind → Option Kind → Option Kind
if_alike None right given = None
if_alike (Some k) right given = if_kind k right given

-- the kind, where its values are numbers
abbrev pub number : Kind → Option Kind
number k = if is_number k then Some k else None

-- the kind of an operand, where its values are numbers
abbrev pub if_number : Option Kind → Option Kind
if_number o = option_and_then number o

-- the kind of a sum or a difference: both sides are numbers of one kind
abbrev pub sum_kind : Kind → Kind → Option Kind
sum_kind left right = if is_number left && same_kind right left then Some left else None

-- the kind of a product: of two ints an int, of an int and a decimal that decimal. Of px * qty, where px has 2 places and
-- qty is an int, it has 2 places
abbrev pub product_kind : Kind → Kind → Option Kind
product_kind K.Int right = number right
product_kind (K.Dec places) K.Int = Some (K.Dec places)
product_kind left right = None

abbrev pub arith_kind : ArithOp → Kind → Kind → Option Kind
arith_kind A.Add left right = sum_kind left right
arith_kind A.Sub left right = sum_kind left right
arith_kind A.Mul left right = product_kind left right

-- the kind of what is computed of two operands
abbrev pub arith_type : ArithOp → Option Kind → Option Kind → Option Kind
arith_type op left right = option_and_then (λ l. option_and_then (arith_kind op l) right) left

-- the kind of the column of that name
abbrev pub column_type : List ColumnDef → List ℕ → Option Kind
column_type schema name = option_and_then (slice_get (kinds schema)) (column_of schema name)

-- the kind of a node's values, over the columns of a schema and where `before` are the kinds of the nodes before it. There
-- is none where a name is no column's, or where an operand is of another kind than the node takes: of v > 10 it is Bool,
-- and of v > 'a' there is none
abbrev pub node_type : List ColumnDef → List Kind → TreeNode → Option Kind
node_type schema before (N.Name name) = column_type schema name
node_type schema before (N.Int x) = Some K.Int
node_type schema before (N.Dec units places) = Some (K.Dec places)
node_type schema before (N.Bool b) = Some K.Bool
node_type schema before (N.Text text) = Some K.Text
node_type schema before (N.Neg of) = if_number (slice_get before of)
node_type schema before (N.Not of) = if_kind K.Bool (slice_get before of) (Some K.Bool)
node_type schema before (N.Arith op left right) = arith_type op (slice_get before left) (slice_get before right)
node_type schema before (N.Div of by) = if_kind K.Int (slice_get before of) (Some K.Int)
node_type schema before (N.Mod of by) = if_kind K.Int (slice_get before of) (Some K.Int)
node_type schema before (N.Compare op left right) = if_alike (slice_get before left) (slice_get before right) (Some K.Bool)
node_type schema before (N.And left right) = if_kind K.Bool (slice_get before left) (if_kind K.Bool (slice_get before right) (Some K.Bool))
node_type schema before (N.Or left right) = if_kind K.Bool (slice_get before left) (if_kind K.Bool (slice_get before right) (Some K.Bool))

-- the kinds of all nodes, where `before` are those of the nodes before them; none where one clashes
abbrev pub types_from : List ColumnDef → List Kind → List TreeNode → Option (List Kind)
types_from schema before [] = Some before
types_from schema before (n ∷ ns) = option_and_then (λ k. types_from schema (before ++ k ∷ []) ns) (node_type schema before n)

-- the kind of a tree's values over the columns of a schema: that of its last node; none where kinds clash in it
abbrev pub type_of : List ColumnDef → List TreeNode → Option Kind
type_of schema tree = option_and_then (λ types. slice_get types (length types - 1)) (types_from schema [] tree)

-- the kinds of the items of a select
abbrev pub types_of : List ColumnDef → List Item → Option (List Kind)
types_of schema items = all_of (map (λ i. type_of schema i.tree) items)

-- the kinds of several trees, as of the literals of a `left`
abbrev pub tree_types : List ColumnDef → List (List TreeNode) → Option (List Kind)
tree_types schema trees = all_of (map (type_of schema) trees)
