-- The nodes of an expression, and the equation of their values.
use Rattle.std.specs.Prelude.{◌≡◌, ℕ, zero, suc, ◌+◌, ◌<◌, Some, List, [], ◌∷◌, slice_get, unwrap_or, refl}
use Rattle.std.proofs.Common.{ap, subst, arith, zero-add}
use Rattle.tw_rows.specs.declared.row.Value.{Value}
use Rattle.tw_rows.specs.Rows.{Row}
use Rattle.plan_model.specs.declared.expr.ExprNode.{ExprNode}
use Rattle.plan_model.specs.declared.expr.ExprNode.TheVariants.{Column, Int as ConstInt, Bool as ConstBool, Text as ConstText, Neg, Not, Arith, Div, Mod, Compare, And, Or}
use Rattle.plan_model.specs.IsExpr.{IsExprNode, AreExprNodes, IsExpr}
use Rattle.plan_model.specs.Expr.{zero_value, node_value, value_at}
use Rattle.plan_model.proofs.Folds.{result-is}

IsExprNode-from : (first : ℕ) (ns : List ExprNode) (i : ℕ) (n : ExprNode) → AreExprNodes first ns → slice_get ns i ≡ Some n → IsExprNode (first + i) n
IsExprNode-from first [] i n rule there = absurd (cc)
IsExprNode-from first (m ∷ ns) zero n rule there =
    let same : first ≡ first + 0 = omega arith in
    subst (λ k. IsExprNode k n) same (subst (λ x. IsExprNode first x) (ap (λ o. unwrap_or o n) there) rule.0)
IsExprNode-from first (m ∷ ns) (suc i) n rule there =
    let next : suc first + i ≡ first + suc i = omega arith in
    subst (λ k. IsExprNode k n) next (IsExprNode-from (suc first) ns i n rule.1 there)

-- each node of an expression keeps its rule
pub IsExprNode-at : (ns : List ExprNode) (i : ℕ) (n : ExprNode) → IsExpr ns → slice_get ns i ≡ Some n → IsExprNode i n
IsExprNode-at ns i n rule there = subst (λ k. IsExprNode k n) (zero-add i) (IsExprNode-from 0 ns i n rule.1 there)

-- a node reads the values of its operands alone
node_value_below : (row : Row) (i : ℕ) (n : ExprNode) → IsExprNode i n → (f g : ℕ → Value) → ((j : ℕ) → j < i → f j ≡ g j) → node_value row n f ≡ node_value row n g
node_value_below row i (Column column) rule f g same = refl
node_value_below row i (ConstInt x) rule f g same = refl
node_value_below row i (ConstBool b) rule f g same = refl
node_value_below row i (ConstText t) rule f g same = refl
node_value_below row i (Neg of) rule f g same = rw (same of rule) refl
node_value_below row i (Not of) rule f g same = rw (same of rule) refl
node_value_below row i (Arith op left right) rule f g same = rw (same left rule.0, same right rule.1) refl
node_value_below row i (Div of by) rule f g same = rw (same of rule.0) refl
node_value_below row i (Mod of by) rule f g same = rw (same of rule.0) refl
node_value_below row i (Compare op left right) rule f g same = rw (same left rule.0, same right rule.1) refl
node_value_below row i (And left right) rule f g same = rw (same left rule.0, same right rule.1) refl
node_value_below row i (Or left right) rule f g same = rw (same left rule.0, same right rule.1) refl

-- the equation of an expression: the value of a node is made from those of its operands
pub value_at-is : (expr : List ExprNode) (row : Row) (i : ℕ) (n : ExprNode) → IsExpr expr → slice_get expr i ≡ Some n → value_at expr row i ≡ node_value row n (value_at expr row)
value_at-is expr row i n rule there = result-is zero_value (node_value row) expr i n there (node_value_below row i n (IsExprNode-at expr i n rule there))
