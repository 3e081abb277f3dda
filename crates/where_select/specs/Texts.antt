-- The texts of the expressions of a plan's node.
use Rattle.std.specs.Prelude.{◌≡◌, ℕ, List, [], take, flat_map}
use Rattle.plan_model.specs.declared.expr.ExprNode.{ExprNode}
use Rattle.plan_model.specs.declared.node.Node.{Node}
use Rattle.plan_model.specs.declared.node.Node.TheVariants.{Where, Select}
use Rattle.lane_expr.specs.Steps.{with_texts}

-- the nodes of items, one item after another. Of `a` and `b + 1`: a, b, 1 and the sum
abbrev pub nodes_of_items : List (List ExprNode) → List ExprNode
nodes_of_items items = flat_map (λ item. item) items

-- the nodes of the expressions of a plan's node: of the test of a Where, of the items of a Select, and none of another node. A
-- Where of `sym == "a"` has sym, "a" and the comparison
abbrev pub nodes_in : Node → List ExprNode
nodes_in (Where of test) = test
nodes_in (Select of items) = nodes_of_items items
nodes_in n = []

-- the table with the texts of the first of these nodes, as many as there are. With "a" of the nodes "a" and "b", if the second was not reached
abbrev pub HasFirstTexts : List (List ℕ) → List (List ℕ) → List ExprNode → Type 0
HasFirstTexts new old nodes = (k : ℕ) × (new ≡ with_texts old (take k nodes))
