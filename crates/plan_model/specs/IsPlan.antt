-- What a plan keeps. Kinds are those of cells: two kinds that are stored alike are one here.
use Rattle.std.specs.Prelude.{◌≡◌, ◌≢◌, ℕ, ◌+◌, ◌-◌, ◌*◌, ◌^◌, ◌<◌, ◌≤◌, nat_eq, true, IsTrue, Option, Some, List, [], ◌∷◌, ◌++◌, map, length, take, slice_get, slice_index_or, All, AllPairs}
use Rattle.std.specs.List.{list_any}
use Rattle.tw_rows.specs.declared.kind.CellKind.{CellKind}
use Rattle.tw_rows.specs.declared.kind.CellKind.TheVariants.{Whole, Bit}
use Rattle.tw_rows.specs.declared.schema.ColumnDef.{ColumnDef}
use Rattle.tw_rows.specs.declared.schema.StreamDef.{StreamDef}
use Rattle.tw_rows.specs.Kinds.{cell_kind_of}
use Rattle.plan_model.specs.declared.agg.Agg.{Agg}
use Rattle.plan_model.specs.declared.agg.Agg.TheVariants.{Count, Sum, Least, Greatest}
use Rattle.plan_model.specs.declared.node.Node.{Node}
use Rattle.plan_model.specs.declared.node.Node.TheVariants.{Source, Where, Select, Union, Hop, Duration, Session, Clip, Group, Join, Anti, Mean, Top, Follow}
use Rattle.plan_model.specs.declared.expr.ExprNode.{ExprNode}
use Rattle.plan_model.specs.Keys.{outside_key}
use Rattle.plan_model.specs.Meaning.{left_child, right_child, left_of, right_of, HasLower, reads_events, reads_right_events}
use Rattle.plan_model.specs.Reach.{node_reach, reach, event_level}
use Rattle.plan_model.specs.Typed.{IsTyped, kind_of}

-- the kinds of the columns of a schema. Of sym text, qty int: Place, Whole
abbrev pub kinds_of_schema : List ColumnDef → List CellKind
kinds_of_schema schema = map (λ c. cell_kind_of c.kind) schema

-- the kinds of the columns of the node of that number, from the list of schemas; none where there is no node
abbrev pub kinds_at : List (List ColumnDef) → ℕ → List CellKind
kinds_at schemas i = kinds_of_schema (slice_index_or schemas i [])

-- the kinds of the columns of the stream of that number
abbrev pub kinds_of_stream : List StreamDef → ℕ → List CellKind
kinds_of_stream streams s = slice_index_or (map (λ d. kinds_of_schema d.schema) streams) s []

-- the kinds of a key's columns, in the order of the key
abbrev pub key_kinds : List CellKind → List ℕ → List CellKind
key_kinds kinds key = map (λ column. slice_index_or kinds column Whole) key

-- the kinds of a node's columns, from those of what it reads on the left and on the right. A join of k, v and k, w by the
-- first column of both has k, v, w
abbrev pub node_kinds : Node → List CellKind → List CellKind → List CellKind
node_kinds (Select of items) l r = map (λ item. kind_of item l) items
node_kinds (Group of key aggs) l r = key_kinds l key ++ map (λ a. Whole) aggs
node_kinds (Join left right left_key right_key) l r = l ++ outside_key right_key r
node_kinds (Mean of at) l r = take (length l - 1) l
node_kinds (Follow left right left_key right_key within) l r = l ++ outside_key right_key r
node_kinds n l r = l

-- the columns of the key are there
abbrev pub IsKey : List CellKind → List ℕ → Type 0
IsKey kinds key = All (λ column. column < length kinds) key

-- the columns of both keys are there, as many on both sides and of equal kinds column by column
pub record AreKeys (l r : List CellKind) (left_key right_key : List ℕ) : Type 0 where
  pub on_left : IsKey l left_key
  pub on_right : IsKey r right_key
  pub alike : key_kinds l left_key ≡ key_kinds r right_key

-- the column that is summed or compared is there, and is an int's
abbrev pub IsAggOver : List CellKind → Agg → Type 0
IsAggOver kinds Count = Unit {0}
IsAggOver kinds (Sum column) = slice_get kinds column ≡ Some Whole
IsAggOver kinds (Least column) = slice_get kinds column ≡ Some Whole
IsAggOver kinds (Greatest column) = slice_get kinds column ≡ Some Whole

-- the period is at least 1, and divides the size, which is at least 1
pub record IsWindow (size period : ℕ) : Type 0 where
  pub lasts : 1 ≤ size
  pub repeats : 1 ≤ period
  pub divides : (k : ℕ) × (size ≡ period * k)

-- as many rows of a key as a top may ask for
abbrev pub most_top : ℕ
most_top = 1000

-- each of the columns stands before the last one and is an int's, and none is there twice. Of a text, a sum and a count
-- it is the column 1 alone
pub record AreSums (kinds : List CellKind) (at : List ℕ) : Type 0 where
  pub before_last : All (λ column. column + 1 < length kinds) at
  pub whole : All (λ column. slice_get kinds column ≡ Some Whole) at
  pub once : AllPairs (λ a b. a ≢ b) at

-- the columns of the key are there, the column that decides is an int's, and from 1 to 1,000 rows are asked for
pub record IsTop (kinds : List CellKind) (key : List ℕ) (by count : ℕ) : Type 0 where
  pub keyed : IsKey kinds key
  pub whole : slice_get kinds by ≡ Some Whole
  pub some : 1 ≤ count
  pub few : count ≤ most_top

-- the expression has a node, and is well typed over columns of these kinds
abbrev pub IsExprOver : List CellKind → List ExprNode → Type 0
IsExprOver kinds expr = (0 < length expr) × IsTyped kinds expr

-- the node's expressions, keys, aggregates and windows are sound over columns of these kinds on the left and on the right
abbrev pub IsSoundOver : Node → List CellKind → List CellKind → Type 0
IsSoundOver (Where of test) l r = IsExprOver l test × (kind_of test l ≡ Bit)
IsSoundOver (Select of items) l r = All (IsExprOver l) items
IsSoundOver (Union left right) l r = l ≡ r
IsSoundOver (Hop of size period) l r = IsWindow size period
IsSoundOver (Duration of by) l r = 1 ≤ by
IsSoundOver (Session of timeout key) l r = (1 ≤ timeout) × IsKey l key
IsSoundOver (Clip left right left_key right_key) l r = AreKeys l r left_key right_key
IsSoundOver (Group of key aggs) l r = IsKey l key × All (IsAggOver l) aggs
IsSoundOver (Join left right left_key right_key) l r = AreKeys l r left_key right_key
IsSoundOver (Anti left right left_key right_key) l r = AreKeys l r left_key right_key
IsSoundOver (Mean of at) l r = AreSums l at
IsSoundOver (Top of key by count) l r = IsTop l key by count
IsSoundOver (Follow left right left_key right_key within) l r = (1 ≤ within) × AreKeys l r left_key right_key
IsSoundOver n l r = Unit {0}

-- a source reads one of the streams
abbrev pub ReadsStream : List StreamDef → Node → Type 0
ReadsStream streams (Source stream) = stream < length streams
ReadsStream streams n = Unit {0}

-- a node that changes the lifetimes of events has event-level children, on both sides where it has two
pub record IsOverEvents (nodes : List Node) (n : Node) : Type 0 where
  pub on_left : reads_events n ≡ true → left_of true (λ s. true) (event_level nodes) n ≡ true
  pub on_right : reads_right_events n ≡ true → right_of true (event_level nodes) n ≡ true

-- the node is a group whose key columns are its only columns, and the key lists all of them
abbrev pub IsOfKeysAlone : List ℕ → Option Node → Type 0
IsOfKeysAlone right_key (Some (Group of key [])) = (column : ℕ) → column < length key → IsTrue (list_any (nat_eq column) right_key)
IsOfKeysAlone right_key n = ⊥

-- the right child of an anti-join has at each instant one row a key at most
abbrev pub HasKeysOnRight : List Node → Node → Type 0
HasKeysOnRight nodes (Anti left right left_key right_key) = IsOfKeysAlone right_key (slice_get nodes right)
HasKeysOnRight nodes n = Unit {0}

-- the node is a group whose last aggregate is a count, as that of a sum and a count
abbrev pub IsCountedGroup : Option Node → Type 0
IsCountedGroup (Some (Group of key aggs)) = (before : List Agg) × (aggs ≡ before ++ Count ∷ [])
IsCountedGroup n = ⊥

-- the child of a mean is such a group
abbrev pub HasCountBelow : List Node → Node → Type 0
HasCountBelow nodes (Mean of at) = IsCountedGroup (slice_get nodes of)
HasCountBelow nodes n = Unit {0}

-- how far a plan may look back, and how many nodes and columns it may have
unfoldable pub most_reach : ℕ
most_reach = 2 ^ 60

abbrev pub most_nodes : ℕ
most_nodes = 256

abbrev pub most_columns : ℕ
most_columns = 32

-- what a plan keeps of the node n of number i, whose columns are those of the schema, among these nodes and schemas
pub record IsNode (streams : List StreamDef) (nodes : List Node) (schemas : List (List ColumnDef)) (i : ℕ) (n : Node) (schema : List ColumnDef) : Type 0 where
  pub left_lower : HasLower i (left_child n)
  pub right_lower : HasLower i (right_child n)
  pub streamed : ReadsStream streams n
  pub over_events : IsOverEvents nodes n
  pub sound : IsSoundOver n (left_of [] (kinds_of_stream streams) (kinds_at schemas) n) (right_of [] (kinds_at schemas) n)
  pub kinds : kinds_of_schema schema ≡ node_kinds n (left_of [] (kinds_of_stream streams) (kinds_at schemas) n) (right_of [] (kinds_at schemas) n)
  pub partnered : HasKeysOnRight nodes n
  pub counted : HasCountBelow nodes n
  pub near : reach nodes i ≤ most_reach
  pub narrow : length schema ≤ most_columns

-- no stream has more than 32 columns
abbrev pub AreNarrow : List StreamDef → Type 0
AreNarrow streams = All (λ stream. length stream.schema ≤ most_columns) streams

-- what a plan keeps of its streams and nodes: no stream is too wide, there is a schema for each node, and each node is as
-- stated
pub record AreNodes (streams : List StreamDef) (nodes : List Node) (schemas : List (List ColumnDef)) : Type 0 where
  pub narrow_streams : AreNarrow streams
  pub few : length nodes ≤ most_nodes
  pub one_each : length schemas ≡ length nodes
  pub each : (i : ℕ) (n : Node) → slice_get nodes i ≡ Some n → IsNode streams nodes schemas i n (slice_index_or schemas i [])

-- the streams, nodes and schemas of a plan, and the number of the node whose rows are the result
pub record PlanParts : Type 0 where
  pub streams : List StreamDef
  pub nodes : List Node
  pub schemas : List (List ColumnDef)
  pub root : ℕ

pub record IsPlan (plan : PlanParts) : Type 0 where
  pub nodes_are : AreNodes plan.streams plan.nodes plan.schemas
  pub rooted : plan.root < length plan.nodes

-- what is asked of a node, with its schema, that is put behind these nodes: all of that, over the nodes before it
pub record IsNewNode (streams : List StreamDef) (nodes : List Node) (schemas : List (List ColumnDef)) (n : Node) (schema : List ColumnDef) : Type 0 where
  pub left_lower : HasLower (length nodes) (left_child n)
  pub right_lower : HasLower (length nodes) (right_child n)
  pub streamed : ReadsStream streams n
  pub over_events : IsOverEvents nodes n
  pub sound : IsSoundOver n (left_of [] (kinds_of_stream streams) (kinds_at schemas) n) (right_of [] (kinds_at schemas) n)
  pub kinds : kinds_of_schema schema ≡ node_kinds n (left_of [] (kinds_of_stream streams) (kinds_at schemas) n) (right_of [] (kinds_at schemas) n)
  pub partnered : HasKeysOnRight nodes n
  pub counted : HasCountBelow nodes n
  pub near : node_reach n (left_of 0 (λ s. 0) (reach nodes) n) (right_of 0 (reach nodes) n) ≤ most_reach
  pub narrow : length schema ≤ most_columns
  pub room : length nodes < most_nodes
