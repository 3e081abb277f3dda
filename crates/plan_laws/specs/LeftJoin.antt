-- Left joins, made of five nodes: the pairs, and the left rows without a partner, filled up.
use Rattle.std.specs.Prelude.{◌≡◌, ℕ, Some, List, [], ◌∷◌, ◌++◌, map, length, slice_get}
use Rattle.tw_rows.specs.Instant.{instants}
use Rattle.tw_rows.specs.Rows.{Row}
use Rattle.tw_rows.specs.declared.row.Value.{Value}
use Rattle.tw_rows.specs.declared.row.Value.TheVariants.{Int as IntValue, Bool as BoolValue, Text as TextValue}
use Rattle.plan_model.specs.declared.expr.ExprNode.{ExprNode}
use Rattle.plan_model.specs.declared.expr.ExprNode.TheVariants.{Column, Int, Bool as Flag, Text}
use Rattle.plan_model.specs.declared.node.Node.{Node}
use Rattle.plan_model.specs.declared.node.Node.TheVariants.{Select, Union, Group, Join, Anti}

-- a value as an expression
abbrev pub literal : Value → List ExprNode
literal (IntValue x) = Int x ∷ []
literal (BoolValue b) = Flag b ∷ []
literal (TextValue t) = Text t ∷ []

-- the items that give the row of the first `width` columns, followed by the values
abbrev pub filling_items : ℕ → Row → List (List ExprNode)
filling_items width fills = map (λ column. Column column ∷ []) (instants 0 width) ++ map literal fills

-- the five nodes, by the numbers of the other four: the pairs; the keys that the right rows have, once each; the left rows
-- whose key is not among them; these filled up by the items; and the pairs together with these
pub record IsLeftJoin (nodes : List Node) (left right : ℕ) (left_key right_key : List ℕ) (items : List (List ExprNode))
    (root : ℕ) : Type 0 where
  pub pairs : ℕ
  pub keys : ℕ
  pub alone : ℕ
  pub filled : ℕ
  pub is_join : slice_get nodes pairs ≡ Some (Join left right left_key right_key)
  pub is_group : slice_get nodes keys ≡ Some (Group right right_key [])
  pub is_anti : slice_get nodes alone ≡ Some (Anti left keys left_key (instants 0 (length right_key)))
  pub is_select : slice_get nodes filled ≡ Some (Select alone items)
  pub is_union : slice_get nodes root ≡ Some (Union pairs filled)
