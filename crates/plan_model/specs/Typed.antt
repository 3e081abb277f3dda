-- Expressions that are well typed over columns. Kinds are those of cells.
use Rattle.std.specs.Prelude.{◌≡◌, ℕ, ◌-◌, ◌<◌, Some, List, [], ◌∷◌, ◌++◌, map, length, slice_get, slice_index_or}
use Rattle.tw_rows.specs.declared.kind.CellKind.{CellKind}
use Rattle.tw_rows.specs.declared.kind.CellKind.TheVariants.{Whole, Bit, Place}
use Rattle.plan_model.specs.declared.expr.ExprNode.{ExprNode}
use Rattle.plan_model.specs.declared.expr.ExprNode.TheVariants.{Column, Int, Bool, Text, Neg, Not, Arith, Div, Mod, Compare, And, Or}

-- the kind of a node's values, over columns of these kinds. Of v > 10 it is Bit
abbrev pub node_kind : List CellKind → ExprNode → CellKind
node_kind columns (Column column) = slice_index_or columns column Whole
node_kind columns (Int x) = Whole
node_kind columns (Bool b) = Bit
node_kind columns (Text t) = Place
node_kind columns (Neg of) = Whole
node_kind columns (Not of) = Bit
node_kind columns (Arith op left right) = Whole
node_kind columns (Div of by) = Whole
node_kind columns (Mod of by) = Whole
node_kind columns (Compare op left right) = Bit
node_kind columns (And left right) = Bit
node_kind columns (Or left right) = Bit

-- the operand of that number stands among the nodes before, and is of the kind
abbrev pub IsOperand : List CellKind → ℕ → CellKind → Type 0
IsOperand before i kind = slice_get before i ≡ Some kind

-- the node's column is there, and its operands are of the kinds that it takes, where `before` are the kinds of the nodes before it
abbrev pub IsTypedNode : List CellKind → List CellKind → ExprNode → Type 0
IsTypedNode columns before (Column column) = column < length columns
IsTypedNode columns before (Int x) = Unit {0}
IsTypedNode columns before (Bool b) = Unit {0}
IsTypedNode columns before (Text t) = Unit {0}
IsTypedNode columns before (Neg of) = IsOperand before of Whole
IsTypedNode columns before (Not of) = IsOperand before of Bit
IsTypedNode columns before (Arith op left right) = IsOperand before left Whole × IsOperand before right Whole
IsTypedNode columns before (Div of by) = IsOperand before of Whole
IsTypedNode columns before (Mod of by) = IsOperand before of Whole
IsTypedNode columns before (Compare op left right) = (kind : CellKind) × IsOperand before left kind × IsOperand before right kind
IsTypedNode columns before (And left right) = IsOperand before left Bit × IsOperand before right Bit
IsTypedNode columns before (Or left right) = IsOperand before left Bit × IsOperand before right Bit

-- each of the nodes is, where `before` are the kinds of those before them
abbrev pub AreTyped : List CellKind → List CellKind → List ExprNode → Type 0
AreTyped columns before [] = Unit {0}
AreTyped columns before (n ∷ ns) = IsTypedNode columns before n × AreTyped columns (before ++ node_kind columns n ∷ []) ns

-- the expression is well typed over columns of these kinds
abbrev pub IsTyped : List CellKind → List ExprNode → Type 0
IsTyped columns expr = AreTyped columns [] expr

-- the kind of the expression's values: that of its last node
abbrev pub kind_of : List ExprNode → List CellKind → CellKind
kind_of expr columns = slice_index_or (map (node_kind columns) expr) (length expr - 1) Whole
