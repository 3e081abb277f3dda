-- The table of faults. Of a step the first row that holds is told; where none of the first four does, the step has nodes,
-- and of these the first of the other rows.
use Rattle.std.specs.Prelude.{ℕ, ◌+◌, nat_le, nat_lt, Bool, true, false, not, ◌||◌, if◌then◌else◌, Option, Some, None, unwrap_or, is_none, Result, Ok, Err, List, [], ◌∷◌, length}
use Rattle.tw_rows.specs.declared.kind.Kind.{Kind}
use Rattle.tw_rows.specs.declared.kind.Kind.TheVariants as K
use Rattle.tw_rows.specs.declared.schema.ColumnDef.{ColumnDef}
use Rattle.plan_model.specs.declared.fault.QueryFault.{QueryFault}
use Rattle.plan_model.specs.declared.fault.QueryFault.TheVariants as F
use Rattle.plan_model.specs.IsPlan.{most_nodes}
use Rattle.plan_model.specs.Reach.{event_level}
use Rattle.query_text.specs.declared.query.QueryStep.{QueryStep}
use Rattle.query_text.specs.declared.query.QueryStep.TheVariants as S
use Rattle.query_plan.specs.Names.{column_of, key_of, expr_of, exprs_of, tree_exprs, aggs_of}
use Rattle.query_plan.specs.Types.{same_kind, is_number, type_of, types_of, tree_types}
use Rattle.query_plan.specs.Schemas.{column_at, same_kinds, keys_alike, aggs_fit, fills_fit}
use Rattle.query_plan.specs.Checked.{is_wide, has_twice}
use Rattle.query_plan.specs.Draft.{Draft, Planned, node_named, schema_at, with_nodes, reaches_too_far}
use Rattle.query_plan.specs.Steps.{is_window, is_top_count}

-- a row of the table: whether it holds, and its fault
pub record FaultRow : Type 0 where
  pub holds : Bool
  pub fault : QueryFault

-- the fault of the first row that holds
abbrev pub first_fault : List FaultRow → Option QueryFault
first_fault [] = None
first_fault (r ∷ rs) = if r.holds then Some r.fault else first_fault rs

-- the fault of an answer
abbrev pub fault_of : {A : Type 0} → Result A QueryFault → Option QueryFault
fault_of (Ok a) = None
fault_of (Err fault) = Some fault

-- the node of the operand's name; what stands for a name that is none does not matter
abbrev pub operand_or : Draft → List ℕ → ℕ
operand_or d name = unwrap_or (node_named d.names name) 0

-- the columns of a key, likewise
abbrev pub key_or : List ColumnDef → List (List ℕ) → List ℕ
key_or schema key = unwrap_or (key_of schema key) []

-- a name of a right operand or of a key on either side stands for nothing
abbrev pub unknown_sides : Draft → ℕ → List ℕ → List (List ℕ) → Bool
unknown_sides d at name key =
    is_none (node_named d.names name) || (is_none (key_of (schema_at d at) key) || is_none (key_of (schema_at d (operand_or d name)) key))

-- the columns of a key are of other kinds on the right
abbrev pub unlike_sides : Draft → ℕ → List ℕ → List (List ℕ) → Bool
unlike_sides d at name key =
    let right = schema_at d (operand_or d name) in
    not (keys_alike (schema_at d at) right (key_or (schema_at d at) key) (key_or right key))

-- UnknownName: a name of the step stands for nothing
abbrev pub has_unknown : Draft → ℕ → QueryStep → Bool
has_unknown d at (S.Where tree) = is_none (expr_of (schema_at d at) tree)
has_unknown d at (S.Select items) = is_none (exprs_of (schema_at d at) items)
has_unknown d at (S.Union name) = is_none (node_named d.names name)
has_unknown d at (S.Session timeout key) = is_none (key_of (schema_at d at) key)
has_unknown d at (S.Clip right key) = unknown_sides d at right key
has_unknown d at (S.Join right key) = unknown_sides d at right key
has_unknown d at (S.Anti right key) = unknown_sides d at right key
has_unknown d at (S.Left right key fills) = unknown_sides d at right key || is_none (tree_exprs (schema_at d at) fills)
has_unknown d at (S.Follow right key within) = unknown_sides d at right key
has_unknown d at (S.Group key aggs) = is_none (key_of (schema_at d at) key) || is_none (aggs_of (schema_at d at) aggs)
has_unknown d at (S.Top count key by) = is_none (key_of (schema_at d at) key) || is_none (column_of (schema_at d at) by)
has_unknown d at s = false

-- whether it is a kind, and Bool
abbrev pub is_test : Option Kind → Bool
is_test None = false
is_test (Some kind) = same_kind kind K.Bool

-- TypeClash: what the step computes or compares is of kinds that do not fit
abbrev pub has_clash : Draft → ℕ → QueryStep → Bool
has_clash d at (S.Where tree) = not (is_test (type_of (schema_at d at) tree))
has_clash d at (S.Select items) = is_none (types_of (schema_at d at) items)
has_clash d at (S.Union name) = not (same_kinds (schema_at d at) (schema_at d (operand_or d name)))
has_clash d at (S.Clip right key) = unlike_sides d at right key
has_clash d at (S.Join right key) = unlike_sides d at right key
has_clash d at (S.Anti right key) = unlike_sides d at right key
has_clash d at (S.Left right key fills) =
    let columns = schema_at d (operand_or d right) in
    unlike_sides d at right key
    || (is_none (tree_types (schema_at d at) fills) || not (fills_fit columns (key_or columns key) (unwrap_or (tree_types (schema_at d at) fills) [])))
has_clash d at (S.Follow right key within) = unlike_sides d at right key
has_clash d at (S.Group key aggs) = not (aggs_fit (schema_at d at) aggs)
has_clash d at (S.Top count key by) = not (is_number (column_at (schema_at d at) (unwrap_or (column_of (schema_at d at) by) 0)).kind)
has_clash d at s = false

-- one of two nodes is not of events
abbrev pub lacks_events : Draft → ℕ → ℕ → Bool
lacks_events d at right = not (event_level d.nodes at) || not (event_level d.nodes right)

-- NotEventLevel: the step changes lifetimes, and a side is not of events
abbrev pub has_no_events : Draft → ℕ → QueryStep → Bool
has_no_events d at (S.Duration by) = not (event_level d.nodes at)
has_no_events d at (S.Extend by) = not (event_level d.nodes at)
has_no_events d at (S.Hop size period) = not (event_level d.nodes at)
has_no_events d at (S.Session timeout key) = not (event_level d.nodes at)
has_no_events d at (S.Clip right key) = lacks_events d at (operand_or d right)
has_no_events d at (S.Follow right key within) = lacks_events d at (operand_or d right)
has_no_events d at s = false

-- BadWindow: a size, a period, a duration, a timeout or a number of rows that may not be
abbrev pub has_bad_window : QueryStep → Bool
has_bad_window (S.Duration by) = not (nat_le 1 by)
has_bad_window (S.Hop size period) = not (is_window size period)
has_bad_window (S.Session timeout key) = not (nat_le 1 timeout)
has_bad_window (S.Top count key by) = not (is_top_count count)
has_bad_window (S.Follow right key within) = not (nat_le 1 within)
has_bad_window s = false

-- the rows of a step by itself
abbrev pub step_rows : ℕ → Draft → ℕ → QueryStep → List FaultRow
step_rows item d at s =
    record { holds = has_unknown d at s; fault = F.UnknownName item }
    ∷ record { holds = has_clash d at s; fault = F.TypeClash item }
    ∷ record { holds = has_no_events d at s; fault = F.NotEventLevel item }
    ∷ record { holds = has_bad_window s; fault = F.BadWindow item } ∷ []

-- the rows of nodes that an item puts behind a draft
abbrev pub node_rows : ℕ → Draft → List Planned → List FaultRow
node_rows item d ps =
    record { holds = reaches_too_far (with_nodes d ps).nodes (length d.nodes) (length ps); fault = F.ReachTooLong item }
    ∷ record { holds = nat_lt most_nodes (length d.nodes + length ps); fault = F.TooManyNodes item }
    ∷ record { holds = is_wide ps; fault = F.TooManyColumns item }
    ∷ record { holds = has_twice ps; fault = F.NameTaken item } ∷ []
