-- The value of an expression on a row.
use Rattle.std.specs.Prelude.{ℕ, ◌-◌, ℤ, pos, ◌+ℤ◌, ◌-ℤ◌, ◌*ℤ◌, neg_ℤ, Bool, false, not, ◌&&◌, ◌||◌, List, length, map, slice_index_or}
use Rattle.std.specs.Int.{w64, int_wrap, int_div_euclid, int_rem_euclid}
use Rattle.std.specs.Ordering.{is_eq, is_ne, is_lt, is_le, is_gt, is_ge}
use Rattle.std.specs.declared.cmp.Ordering.{Ordering}
use Rattle.tw_rows.specs.declared.row.Value.{Value}
use Rattle.tw_rows.specs.declared.row.Value.TheVariants.{Int, Bool as Flag, Text}
use Rattle.tw_rows.specs.Rows.{Row, value_cmp}
use Rattle.plan_model.specs.declared.expr.ArithOp.{ArithOp}
use Rattle.plan_model.specs.declared.expr.ArithOp.TheVariants.{Add, Sub, Mul}
use Rattle.plan_model.specs.declared.expr.CompareOp.{CompareOp}
use Rattle.plan_model.specs.declared.expr.CompareOp.TheVariants.{Eq, Ne, Lt, Le, Gt, Ge}
use Rattle.plan_model.specs.declared.expr.ExprNode.{ExprNode}
use Rattle.plan_model.specs.declared.expr.ExprNode.TheVariants.{Column, Int as ConstInt, Bool as ConstBool, Text as ConstText, Neg, Not, Arith, Div, Mod, Compare, And, Or}
use Rattle.plan_model.specs.Fold.{result}

-- the one number of an i64 that is congruent to z modulo 2^64: 2^63 becomes -2^63
abbrev pub wrapped : ℤ → ℤ
wrapped z = int_wrap w64 z

-- the exact sum, difference or product, wrapped
abbrev pub arith_value : ArithOp → ℤ → ℤ → ℤ
arith_value Add x y = wrapped (x +ℤ y)
arith_value Sub x y = wrapped (x -ℤ y)
arith_value Mul x y = wrapped (x *ℤ y)

-- whether the comparison is true of two values that compare so
abbrev pub is_met : CompareOp → Ordering → Bool
is_met Eq o = is_eq o
is_met Ne o = is_ne o
is_met Lt o = is_lt o
is_met Le o = is_le o
is_met Gt o = is_gt o
is_met Ge o = is_ge o

-- what stands where a column or an operand is missing
abbrev pub zero_value : Value
zero_value = Int (pos 0)

-- the number that an operand is. An operand of another kind reads as 0; a well-typed expression never meets that
abbrev pub int_of : Value → ℤ
int_of (Int x) = x
int_of (Flag b) = pos 0
int_of (Text t) = pos 0

-- the truth value that an operand is. An operand of another kind reads as false; a well-typed expression never meets that
abbrev pub flag_of : Value → Bool
flag_of (Int x) = false
flag_of (Flag b) = b
flag_of (Text t) = false

-- the value of a node on a row, where `at` has the values of the nodes before it, by their numbers
abbrev pub node_value : Row → ExprNode → (ℕ → Value) → Value
node_value row (Column column) at = slice_index_or row column zero_value
node_value row (ConstInt x) at = Int x
node_value row (ConstBool b) at = Flag b
node_value row (ConstText t) at = Text t
node_value row (Neg of) at = Int (wrapped (neg_ℤ (int_of (at of))))
node_value row (Not of) at = Flag (not (flag_of (at of)))
node_value row (Arith op left right) at = Int (arith_value op (int_of (at left)) (int_of (at right)))
node_value row (Div of by) at = Int (int_div_euclid (int_of (at of)) (pos by))
node_value row (Mod of by) at = Int (int_rem_euclid (int_of (at of)) (pos by))
node_value row (Compare op left right) at = Flag (is_met op (value_cmp (at left) (at right)))
node_value row (And left right) at = Flag (flag_of (at left) && flag_of (at right))
node_value row (Or left right) at = Flag (flag_of (at left) || flag_of (at right))

-- the number, and the truth value, that the value of a node is
abbrev pub int_node : Row → (ℕ → Value) → ExprNode → ℤ
int_node row at n = int_of (node_value row n at)

abbrev pub flag_node : Row → (ℕ → Value) → ExprNode → Bool
flag_node row at n = flag_of (node_value row n at)

-- the value of the node of number i
abbrev pub value_at : List ExprNode → Row → ℕ → Value
value_at expr row = result zero_value (node_value row) expr

-- the value of an expression on a row: that of its last node. v > 10 is true on the row (12)
abbrev pub value : List ExprNode → Row → Value
value expr row = value_at expr row (length expr - 1)

-- whether a test is true of a row
abbrev pub holds : List ExprNode → Row → Bool
holds test row = flag_of (value test row)

-- the values of items on a row, in order. The items a + b and a make of the row 3, 4 the row 7, 3
abbrev pub selected_row : List (List ExprNode) → Row → Row
selected_row items row = map (λ item. value item row) items
