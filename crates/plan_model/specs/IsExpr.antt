-- What an expression keeps of its nodes.
use Rattle.std.specs.Prelude.{ℕ, suc, ◌^◌, ◌<◌, ◌≤◌, ◌≢◌, List, [], ◌∷◌, length, All}
use Rattle.plan_model.specs.declared.expr.ExprNode.{ExprNode}
use Rattle.plan_model.specs.declared.expr.ExprNode.TheVariants.{Column, Int, Bool, Text, Neg, Not, Arith, Div, Mod, Compare, And, Or}

-- the text has neither CR nor LF
abbrev pub IsOneLine : List ℕ → Type 0
IsOneLine text = All (λ byte. (byte ≢ 13) × (byte ≢ 10)) text

-- what one may divide by: 1 to 9223372036854775807
abbrev pub IsDivisor : ℕ → Type 0
IsDivisor by = (1 ≤ by) × (by < 2 ^ 63)

-- the node of number i has its operands before it, a divisor to divide by, and a text without a line break
abbrev pub IsExprNode : ℕ → ExprNode → Type 0
IsExprNode i (Column column) = Unit {0}
IsExprNode i (Int x) = Unit {0}
IsExprNode i (Bool b) = Unit {0}
IsExprNode i (Text text) = IsOneLine text
IsExprNode i (Neg of) = of < i
IsExprNode i (Not of) = of < i
IsExprNode i (Arith op left right) = (left < i) × (right < i)
IsExprNode i (Div of by) = (of < i) × IsDivisor by
IsExprNode i (Mod of by) = (of < i) × IsDivisor by
IsExprNode i (Compare op left right) = (left < i) × (right < i)
IsExprNode i (And left right) = (left < i) × (right < i)
IsExprNode i (Or left right) = (left < i) × (right < i)

-- each of the nodes, of which the first has number i
abbrev pub AreExprNodes : ℕ → List ExprNode → Type 0
AreExprNodes i [] = Unit {0}
AreExprNodes i (n ∷ ns) = IsExprNode i n × AreExprNodes (suc i) ns

-- the nodes are those of an expression: there is one, and all keep their rule
abbrev pub IsExpr : List ExprNode → Type 0
IsExpr ns = (0 < length ns) × AreExprNodes 0 ns
