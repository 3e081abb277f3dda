-- A plan that is being made, and what an item of a query has to keep to be put behind it.
use Rattle.std.specs.Prelude.{ℕ, ◌+◌, nat_lt, nat_eq, Bool, false, ◌||◌, not, if◌then◌else◌, Option, option_map, Result, Ok, Err, List, [], ◌∷◌, ◌++◌, map, length, slice_index_or}
use Rattle.std.specs.List.{list_any, find}
use lib.Pointwise.{pointwise}
use Rattle.tw_rows.specs.Instant.{instants}
use Rattle.tw_rows.specs.declared.schema.ColumnDef.{ColumnDef}
use Rattle.plan_model.specs.declared.fault.QueryFault.{QueryFault}
use Rattle.plan_model.specs.declared.fault.QueryFault.TheVariants as F
use Rattle.plan_model.specs.declared.node.Node.{Node}
use Rattle.plan_model.specs.declared.node.Node.TheVariants.{Source, Where, Select, Union, Delay, Hop, Duration, Extend, Session, Clip, Group, Join, Anti, Coalesce, Mean, Top, Follow}
use Rattle.plan_model.specs.Reach.{reach}
use Rattle.plan_model.specs.IsPlan.{most_reach, most_nodes, most_columns}
use Rattle.query_plan.specs.Schemas.{name_twice, key_twice}

-- a name of a stream or of a let, and the node whose rows it stands for
pub record Named : Type 0 where
  pub name : List ℕ
  pub node : ℕ

-- a node, and the names and kinds of its columns
pub record Planned : Type 0 where
  pub node : Node
  pub schema : List ColumnDef

-- what is planned so far: the names that are known, the nodes, and a schema for each
pub record Draft : Type 0 where
  pub names : List Named
  pub nodes : List Node
  pub schemas : List (List ColumnDef)

-- nothing is planned
abbrev pub no_draft : Draft
no_draft = record { names = []; nodes = []; schemas = [] }

-- what comes next, where what came before has no fault
abbrev pub and_then : {A B : Type 0} → Result A QueryFault → (A → Result B QueryFault) → Result B QueryFault
and_then (Err fault) next = Err fault
and_then (Ok a) next = next a

-- nothing, or the fault where the test fails
abbrev pub needs : Bool → QueryFault → Result (Unit {0}) QueryFault
needs test fault = if test then Ok tt else Err fault

-- the node that a name stands for
abbrev pub node_named : List Named → List ℕ → Option ℕ
node_named names name = option_map (λ n. n.node) (find (λ n. pointwise nat_eq n.name name) names)

-- whether the name is taken
abbrev pub is_taken : List Named → List ℕ → Bool
is_taken names name = list_any (λ n. pointwise nat_eq n.name name) names

-- the columns of the node of that number
abbrev pub schema_at : Draft → ℕ → List ColumnDef
schema_at d i = slice_index_or d.schemas i []

-- the draft with these nodes behind its own
abbrev pub with_nodes : Draft → List Planned → Draft
with_nodes d ps = record { names = d.names; nodes = d.nodes ++ map (λ p. p.node) ps; schemas = d.schemas ++ map (λ p. p.schema) ps }

-- the draft that knows one more name
abbrev pub with_name : Draft → List ℕ → ℕ → Draft
with_name d name node = record { names = d.names ++ record { name = name; node = node } ∷ []; nodes = d.nodes; schemas = d.schemas }

-- a key of the node names a column twice
abbrev pub has_key_twice : Node → Bool
has_key_twice (Source stream) = false
has_key_twice (Where of test) = false
has_key_twice (Select of items) = false
has_key_twice (Union left right) = false
has_key_twice (Delay of by) = false
has_key_twice (Hop of size period) = false
has_key_twice (Duration of by) = false
has_key_twice (Extend of by) = false
has_key_twice (Session of timeout key) = key_twice key
has_key_twice (Clip left right left_key right_key) = key_twice left_key
has_key_twice (Group of key aggs) = key_twice key
has_key_twice (Join left right left_key right_key) = key_twice left_key
has_key_twice (Anti left right left_key right_key) = key_twice left_key
has_key_twice (Coalesce of) = false
has_key_twice (Mean of at) = false
has_key_twice (Top of key by count) = key_twice key
has_key_twice (Follow left right left_key right_key within) = key_twice left_key

-- one of the nodes from number i on reaches too far. There are n of them
abbrev pub reaches_too_far : List Node → ℕ → ℕ → Bool
reaches_too_far nodes i n = list_any (λ j. nat_lt most_reach (reach nodes j)) (instants i n)

-- the draft with these nodes, which an item makes, or the first of its faults: how far they reach, how many nodes there
-- are with them, how many columns they have, and whether a name or a column of a key stands twice
abbrev pub admitted : ℕ → Draft → List Planned → Result Draft QueryFault
admitted item d ps =
    and_then (needs (not (reaches_too_far (with_nodes d ps).nodes (length d.nodes) (length ps))) (F.ReachTooLong item)) (λ u.
    and_then (needs (not (nat_lt most_nodes (length d.nodes + length ps))) (F.TooManyNodes item)) (λ u.
    and_then (needs (not (list_any (λ p. nat_lt most_columns (length p.schema)) ps)) (F.TooManyColumns item)) (λ u.
    and_then (needs (not (list_any (λ p. name_twice p.schema || has_key_twice p.node) ps)) (F.NameTaken item)) (λ u.
    Ok (with_nodes d ps)))))
