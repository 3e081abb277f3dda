-- The nodes that a step makes over the node before it, or its first fault: of names, then of kinds, then of levels, then of
-- windows.
use Rattle.std.specs.Prelude.{ℕ, ◌+◌, nat_eq, nat_le, ◌&&◌, ◌%◌, Bool, if◌then◌else◌, ok_or, Result, Ok, List, [], ◌∷◌, ◌++◌, map, length}
use Rattle.std.specs.List.{list_any}
use Rattle.tw_rows.specs.Instant.{instants}
use Rattle.tw_rows.specs.declared.kind.Kind.TheVariants as K
use Rattle.tw_rows.specs.declared.schema.ColumnDef.{ColumnDef}
use Rattle.plan_model.specs.declared.agg.Agg.{Agg}
use Rattle.plan_model.specs.declared.agg.Agg.TheVariants as A
use Rattle.plan_model.specs.declared.expr.ExprNode.{ExprNode}
use Rattle.plan_model.specs.declared.expr.ExprNode.TheVariants as E
use Rattle.plan_model.specs.declared.fault.QueryFault.{QueryFault}
use Rattle.plan_model.specs.declared.fault.QueryFault.TheVariants as F
use Rattle.plan_model.specs.declared.node.Node.{Node}
use Rattle.plan_model.specs.declared.node.Node.TheVariants.{Where, Select, Union, Delay, Hop, Duration, Extend, Session, Clip, Group, Join, Anti, Coalesce, Mean, Top, Follow}
use Rattle.plan_model.specs.Reach.{event_level}
use Rattle.query_text.specs.declared.query.QueryStep.{QueryStep}
use Rattle.query_text.specs.declared.query.QueryStep.TheVariants as S
use Rattle.query_text.specs.declared.query.Item.{Item}
use Rattle.query_text.specs.declared.query.QueryAgg.{QueryAgg}
use Rattle.query_text.specs.declared.tree.TreeNode.{TreeNode}
use Rattle.query_plan.specs.Names.{column_of, key_of, expr_of, exprs_of, tree_exprs, aggs_of}
use Rattle.query_plan.specs.Types.{same_kind, is_number, type_of, types_of, tree_types}
use Rattle.query_plan.specs.Schemas.{column_at, select_schema, group_schema, count_column, join_schema, same_kinds, keys_alike, aggs_fit, is_avg, averages_from, fills_fit}
use Rattle.query_plan.specs.Draft.{Draft, Planned, and_then, needs, node_named, schema_at}

-- the node that an operand names
abbrev pub operand : ℕ → Draft → List ℕ → Result ℕ QueryFault
operand item d name = ok_or (node_named d.names name) (F.UnknownName item)

-- the rows of the node are events
abbrev pub over_events : ℕ → Draft → ℕ → Result (Unit {0}) QueryFault
over_events item d at = needs (event_level d.nodes at) (F.NotEventLevel item)

-- one node, with the columns of the node before it
abbrev pub alone : Draft → ℕ → Node → Result (List Planned) QueryFault
alone d at node = Ok (record { node = node; schema = schema_at d at } ∷ [])

-- a right operand, and its key on both sides: the node, the columns on the left and those on the right
pub record PlannedSides : Type 0 where
  pub right : ℕ
  pub left_key : List ℕ
  pub right_key : List ℕ

-- an operand is there, and the columns of the key are there on both sides
abbrev pub named_sides : ℕ → Draft → ℕ → List ℕ → List (List ℕ) → Result PlannedSides QueryFault
named_sides item d at name key =
    and_then (operand item d name) (λ right.
    and_then (ok_or (key_of (schema_at d at) key) (F.UnknownName item)) (λ left_key.
    and_then (ok_or (key_of (schema_at d right) key) (F.UnknownName item)) (λ right_key.
    Ok (record { right = right; left_key = left_key; right_key = right_key }))))

-- the columns of the key are of the same kinds on both sides
abbrev pub are_alike : Draft → ℕ → PlannedSides → Bool
are_alike d at s = keys_alike (schema_at d at) (schema_at d s.right) s.left_key s.right_key

-- an operand and a key that are there, and are alike
abbrev pub sides : ℕ → Draft → ℕ → List ℕ → List (List ℕ) → Result PlannedSides QueryFault
sides item d at name key =
    and_then (named_sides item d at name key) (λ s.
    and_then (needs (are_alike d at s) (F.TypeClash item)) (λ u.
    Ok s))

-- a filter by a test
abbrev pub where_step : ℕ → Draft → ℕ → List TreeNode → Result (List Planned) QueryFault
where_step item d at tree =
    and_then (ok_or (expr_of (schema_at d at) tree) (F.UnknownName item)) (λ test.
    and_then (ok_or (type_of (schema_at d at) tree) (F.TypeClash item)) (λ kind.
    and_then (needs (same_kind kind K.Bool) (F.TypeClash item)) (λ u.
    alone d at (Where at test))))

-- a column for each item
abbrev pub select_step : ℕ → Draft → ℕ → List Item → Result (List Planned) QueryFault
select_step item d at items =
    and_then (ok_or (exprs_of (schema_at d at) items) (F.UnknownName item)) (λ exprs.
    and_then (ok_or (types_of (schema_at d at) items) (F.TypeClash item)) (λ types.
    Ok (record { node = Select at exprs; schema = select_schema items types } ∷ [])))

-- the rows of both, whose columns have the same kinds
abbrev pub union_step : ℕ → Draft → ℕ → List ℕ → Result (List Planned) QueryFault
union_step item d at name =
    and_then (operand item d name) (λ right.
    and_then (needs (same_kinds (schema_at d at) (schema_at d right)) (F.TypeClash item)) (λ u.
    alone d at (Union at right)))

-- a duration of at least 1
abbrev pub duration_step : ℕ → Draft → ℕ → ℕ → Result (List Planned) QueryFault
duration_step item d at by =
    and_then (over_events item d at) (λ u.
    and_then (needs (nat_le 1 by) (F.BadWindow item)) (λ u.
    alone d at (Duration at by)))

abbrev pub extend_step : ℕ → Draft → ℕ → ℕ → Result (List Planned) QueryFault
extend_step item d at by =
    and_then (over_events item d at) (λ u.
    alone d at (Extend at by))

-- the size and the period are at least 1, and the period divides the size
abbrev pub is_window : ℕ → ℕ → Bool
is_window size period = nat_le 1 size && nat_le 1 period && nat_eq (size % period) 0

abbrev pub hop_step : ℕ → Draft → ℕ → ℕ → ℕ → Result (List Planned) QueryFault
hop_step item d at size period =
    and_then (over_events item d at) (λ u.
    and_then (needs (is_window size period) (F.BadWindow item)) (λ u.
    alone d at (Hop at size period)))

-- a timeout of at least 1, and a key
abbrev pub session_step : ℕ → Draft → ℕ → ℕ → List (List ℕ) → Result (List Planned) QueryFault
session_step item d at timeout names =
    and_then (ok_or (key_of (schema_at d at) names) (F.UnknownName item)) (λ key.
    and_then (over_events item d at) (λ u.
    and_then (needs (nat_le 1 timeout) (F.BadWindow item)) (λ u.
    alone d at (Session at timeout key))))

abbrev pub clip_step : ℕ → Draft → ℕ → List ℕ → List (List ℕ) → Result (List Planned) QueryFault
clip_step item d at name key =
    and_then (sides item d at name key) (λ s.
    and_then (over_events item d at) (λ u.
    and_then (over_events item d s.right) (λ u.
    alone d at (Clip at s.right s.left_key s.right_key))))

-- the columns of a join or of what stands for one: the left ones, and then the right ones outside the key
abbrev pub joined : Draft → ℕ → PlannedSides → List ColumnDef
joined d at s = join_schema (schema_at d at) (schema_at d s.right) s.right_key

abbrev pub join_node : Draft → ℕ → PlannedSides → Planned
join_node d at s = record { node = Join at s.right s.left_key s.right_key; schema = joined d at s }

abbrev pub join_step : ℕ → Draft → ℕ → List ℕ → List (List ℕ) → Result (List Planned) QueryFault
join_step item d at name key =
    and_then (sides item d at name key) (λ s.
    Ok (join_node d at s ∷ []))

-- the right keys that there are: a group of them alone
abbrev pub key_group : Draft → PlannedSides → Planned
key_group d s = record { node = Group s.right s.right_key []; schema = group_schema (schema_at d s.right) s.right_key [] [] }

-- the anti-join with that group, which has number `group`. Its right key is all of the group's columns
abbrev pub anti_node : Draft → ℕ → PlannedSides → ℕ → Planned
anti_node d at s group = record { node = Anti at group s.left_key (instants 0 (length s.right_key)); schema = schema_at d at }

-- two nodes: a group of the right keys alone, and the anti-join with it
abbrev pub anti_step : ℕ → Draft → ℕ → List ℕ → List (List ℕ) → Result (List Planned) QueryFault
anti_step item d at name key =
    and_then (sides item d at name key) (λ s.
    Ok (key_group d s ∷ anti_node d at s (length d.nodes) ∷ []))

-- an item for each of n columns: its value
abbrev pub columns_alone : ℕ → List (List ExprNode)
columns_alone n = map (λ c. E.Column c ∷ []) (instants 0 n)

-- the left rows without a partner, which has number `of`: their columns, and a literal for each right column outside the key
abbrev pub filled_node : Draft → ℕ → PlannedSides → ℕ → List (List ExprNode) → Planned
filled_node d at s of fills = record { node = Select of (columns_alone (length (schema_at d at)) ++ fills); schema = joined d at s }

-- the five nodes of a left join behind n nodes: the join, the group of the right keys, the left rows without a partner,
-- these with the literals, and the union of the join and them
abbrev pub left_nodes : Draft → ℕ → PlannedSides → ℕ → List (List ExprNode) → List Planned
left_nodes d at s n fills =
    join_node d at s
    ∷ key_group d s
    ∷ anti_node d at s (n + 1)
    ∷ filled_node d at s (n + 2) fills
    ∷ record { node = Union n (n + 3); schema = joined d at s } ∷ []

-- a join that keeps each left row without a partner, with literals in the place of the right columns
abbrev pub left_step : ℕ → Draft → ℕ → List ℕ → List (List ℕ) → List (List TreeNode) → Result (List Planned) QueryFault
left_step item d at name key trees =
    and_then (named_sides item d at name key) (λ s.
    and_then (ok_or (tree_exprs (schema_at d at) trees) (F.UnknownName item)) (λ fills.
    and_then (needs (are_alike d at s) (F.TypeClash item)) (λ u.
    and_then (ok_or (tree_types (schema_at d at) trees) (F.TypeClash item)) (λ types.
    and_then (needs (fills_fit (schema_at d s.right) s.right_key types) (F.TypeClash item)) (λ u.
    Ok (left_nodes d at s (length d.nodes) fills))))))

-- one of the aggregates is an average
abbrev pub has_average : List QueryAgg → Bool
has_average aggs = list_any (λ a. is_avg a.fun) aggs

-- the nodes of a group. Where it has averages, they are sums with a count behind all, and a second node divides
abbrev pub grouped : Draft → ℕ → List ℕ → List QueryAgg → List Agg → List Planned
grouped d at key aggs computed =
    let schema = group_schema (schema_at d at) key aggs computed in
    if has_average aggs
    then record { node = Group at key (computed ++ A.Count ∷ []); schema = schema ++ count_column ∷ [] }
    ∷ record { node = Mean (length d.nodes) (averages_from (length key) aggs); schema = schema } ∷ []
    else record { node = Group at key computed; schema = schema } ∷ []

-- a key and aggregates of numbers
abbrev pub group_step : ℕ → Draft → ℕ → List (List ℕ) → List QueryAgg → Result (List Planned) QueryFault
group_step item d at names aggs =
    and_then (ok_or (key_of (schema_at d at) names) (F.UnknownName item)) (λ key.
    and_then (ok_or (aggs_of (schema_at d at) aggs) (F.UnknownName item)) (λ computed.
    and_then (needs (aggs_fit (schema_at d at) aggs) (F.TypeClash item)) (λ u.
    Ok (grouped d at key aggs computed))))

-- how many values a `top` may ask for: 1 to 1,000
abbrev pub is_top_count : ℕ → Bool
is_top_count count = nat_le 1 count && nat_le count 1000

-- a key, and a column of numbers
abbrev pub top_step : ℕ → Draft → ℕ → ℕ → List (List ℕ) → List ℕ → Result (List Planned) QueryFault
top_step item d at count names by =
    and_then (ok_or (key_of (schema_at d at) names) (F.UnknownName item)) (λ key.
    and_then (ok_or (column_of (schema_at d at) by) (F.UnknownName item)) (λ column.
    and_then (needs (is_number (column_at (schema_at d at) column).kind) (F.TypeClash item)) (λ u.
    and_then (needs (is_top_count count) (F.BadWindow item)) (λ u.
    alone d at (Top at key column count)))))

-- events on both sides, and a time of at least 1
abbrev pub follow_step : ℕ → Draft → ℕ → List ℕ → List (List ℕ) → ℕ → Result (List Planned) QueryFault
follow_step item d at name key within =
    and_then (sides item d at name key) (λ s.
    and_then (over_events item d at) (λ u.
    and_then (over_events item d s.right) (λ u.
    and_then (needs (nat_le 1 within) (F.BadWindow item)) (λ u.
    Ok (record { node = Follow at s.right s.left_key s.right_key within; schema = joined d at s } ∷ [])))))

-- the nodes of a step over the node of number `at`. `delay` and `coalesce` have nothing to be refused for here
abbrev pub step_nodes : ℕ → Draft → ℕ → QueryStep → Result (List Planned) QueryFault
step_nodes item d at (S.Where tree) = where_step item d at tree
step_nodes item d at (S.Select items) = select_step item d at items
step_nodes item d at (S.Union name) = union_step item d at name
step_nodes item d at (S.Delay by) = alone d at (Delay at by)
step_nodes item d at (S.Duration by) = duration_step item d at by
step_nodes item d at (S.Extend by) = extend_step item d at by
step_nodes item d at (S.Hop size period) = hop_step item d at size period
step_nodes item d at (S.Session timeout key) = session_step item d at timeout key
step_nodes item d at (S.Clip right key) = clip_step item d at right key
step_nodes item d at (S.Join right key) = join_step item d at right key
step_nodes item d at (S.Anti right key) = anti_step item d at right key
step_nodes item d at (S.Group key aggs) = group_step item d at key aggs
step_nodes item d at S.Coalesce = alone d at (Coalesce at)
step_nodes item d at (S.Left right key fills) = left_step item d at right key fills
step_nodes item d at (S.Top count key by) = top_step item d at count key by
step_nodes item d at (S.Follow right key within) = follow_step item d at right key within
