-- When a plan may be cut by one column of each stream, so that each part of the rows is computed by itself.
use Rattle.std.specs.Prelude.{ℕ, suc, ◌+◌, nat_eq, nat_lt, Bool, false, cond, not, ◌&&◌, is_none, Option, option_to_list, List, [], ◌∷◌, length, map, filter, slice_get, slice_index_or}
use Rattle.std.specs.List.{list_any}
use Rattle.tw_rows.specs.declared.schema.ColumnDef.{ColumnDef}
use Rattle.tw_rows.specs.declared.schema.StreamDef.{StreamDef}
use Rattle.plan_model.specs.declared.expr.ExprNode.{ExprNode}
use Rattle.plan_model.specs.declared.expr.ExprNode.TheVariants.{Column}
use Rattle.plan_model.specs.declared.node.Node.{Node}
use Rattle.plan_model.specs.declared.node.Node.TheVariants.{Select, Union, Session, Clip, Group, Join, Anti, Mean, Top, Follow}
use Rattle.plan_model.specs.IsPlan.{PlanParts}
use Rattle.plan_model.specs.Shape.{over_nodes}
use Rattle.plan_laws.specs.Undefined.{first_below}

-- the number is one of the list: 2 is among 0 and 2
abbrev pub is_among : List ℕ → ℕ → Bool
is_among places place = list_any (nat_eq place) places

-- the places of the items that pass the test, of which the first has that place. Of 5, 6 and 8, from 0 on, the even ones: 1
-- and 2
abbrev pub passing_from : {X : Type 0} → (X → Bool) → ℕ → List X → List ℕ
passing_from test place [] = []
passing_from test place (x ∷ xs) =
    cond (test x) (place ∷ passing_from test (suc place) xs) (passing_from test (suc place) xs)

-- the item is a column by which its rows are cut, and nothing more: `sym`, and not `qty * 2`
abbrev pub is_cut_column : List ℕ → List ExprNode → Bool
is_cut_column places (Column column ∷ []) = is_among places column
is_cut_column places item = false

-- the columns of the left key by which the left rows are cut, where the right rows are cut by the column at the same place
-- of the right key. Of the keys 0, 1 and 2, 3, where the left rows are cut by 0 and by 1, and the right ones by 3: 1
abbrev pub in_both_keys : List ℕ → List ℕ → List ℕ → List ℕ → List ℕ
in_both_keys [] right_key left right = []
in_both_keys (l ∷ left_key) [] left right = []
in_both_keys (l ∷ left_key) (r ∷ right_key) left right =
    cond (is_among left l && is_among right r) (l ∷ in_both_keys left_key right_key left right)
    (in_both_keys left_key right_key left right)

-- the columns by which the rows of a node are cut, from those of its children and how many columns these have. A group is
-- cut where its key names such a column, and a union by the columns that both sides have
abbrev pub node_places : (ℕ → ℕ) → Node → List ℕ → List ℕ → List ℕ
node_places width (Select of items) a b = passing_from (is_cut_column a) 0 items
node_places width (Union left right) a b = filter (is_among b) a
node_places width (Session of timeout key) a b = filter (is_among a) key
node_places width (Clip left right left_key right_key) a b = in_both_keys left_key right_key a b
node_places width (Group of key aggs) a b = passing_from (is_among a) 0 key
node_places width (Join left right left_key right_key) a b = in_both_keys left_key right_key a b
node_places width (Anti left right left_key right_key) a b = in_both_keys left_key right_key a b
node_places width (Mean of at) a b = filter (λ place. not (is_among at place) && nat_lt (place + 1) (width of)) a
node_places width (Top of key by count) a b = filter (is_among a) key
node_places width (Follow left right left_key right_key within) a b = in_both_keys left_key right_key a b
node_places width n a b = a

-- how many columns the node of that number has, from the list of schemas
abbrev pub width_at : List (List ColumnDef) → ℕ → ℕ
width_at schemas i = length (slice_index_or schemas i [])

-- how many columns each stream has
abbrev pub stream_widths : List StreamDef → List ℕ
stream_widths streams = map (λ s. length s.schema) streams

-- the columns by which the rows of the stream of number s are cut: its column of the list, if it has one of that number. Of the
-- columns 1 and 5, where each stream has two: 1 of the first, and none of the second
abbrev pub stream_places : List StreamDef → List ℕ → ℕ → List ℕ
stream_places streams columns s =
    filter (λ c. nat_lt c (slice_index_or (stream_widths streams) s 0)) (option_to_list (slice_get columns s))

-- the columns by which the rows of the node of number i are cut, where those of each stream are cut by its column of the list
abbrev pub cut_places : PlanParts → List ℕ → ℕ → List ℕ
cut_places plan columns i =
    over_nodes [] (stream_places plan.streams columns) (node_places (width_at plan.schemas)) plan.nodes i

-- the rows of the node are cut by no column, as those of a select that leaves it out
abbrev pub is_uncut : PlanParts → List ℕ → ℕ → Bool
is_uncut plan columns i = nat_eq (length (cut_places plan columns i)) 0

-- the lowest node whose rows are cut by no column
abbrev pub first_uncut : PlanParts → List ℕ → Option ℕ
first_uncut plan columns = first_below (is_uncut plan columns) (length plan.nodes)

-- the plan may be cut by these columns, one for each stream: the rows of each node are cut by a column too
abbrev pub may_be_cut : PlanParts → List ℕ → Bool
may_be_cut plan columns = nat_eq (length columns) (length plan.streams) && is_none (first_uncut plan columns)
