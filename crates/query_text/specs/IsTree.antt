-- What a tree keeps of its nodes.
use Rattle.std.specs.Prelude.{ℕ, suc, ◌<◌, List, [], ◌∷◌, length}
use Rattle.plan_model.specs.IsExpr.{IsOneLine, IsDivisor}
use Rattle.query_text.specs.declared.tree.TreeNode.{TreeNode}
use Rattle.query_text.specs.declared.tree.TreeNode.TheVariants.{Name, Int, Dec, Bool, Text, Neg, Not, Arith, Div, Mod, Compare, And, Or}

-- the node of number i has its operands before it, a divisor to divide by, and a text without a line break
abbrev pub IsTreeNode : ℕ → TreeNode → Type 0
IsTreeNode i (Name name) = Unit {0}
IsTreeNode i (Int x) = Unit {0}
IsTreeNode i (Dec units places) = Unit {0}
IsTreeNode i (Bool b) = Unit {0}
IsTreeNode i (Text text) = IsOneLine text
IsTreeNode i (Neg of) = of < i
IsTreeNode i (Not of) = of < i
IsTreeNode i (Arith op left right) = (left < i) × (right < i)
IsTreeNode i (Div of by) = (of < i) × IsDivisor by
IsTreeNode i (Mod of by) = (of < i) × IsDivisor by
IsTreeNode i (Compare op left right) = (left < i) × (right < i)
IsTreeNode i (And left right) = (left < i) × (right < i)
IsTreeNode i (Or left right) = (left < i) × (right < i)

-- each of the nodes, of which the first has number i
abbrev pub AreTreeNodes : ℕ → List TreeNode → Type 0
AreTreeNodes i [] = Unit {0}
AreTreeNodes i (n ∷ ns) = IsTreeNode i n × AreTreeNodes (suc i) ns

-- the nodes are those of a tree: there is one, and all keep their rule
abbrev pub IsTree : List TreeNode → Type 0
IsTree ns = (0 < length ns) × AreTreeNodes 0 ns
