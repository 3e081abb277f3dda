-- The lists that are there while the nodes of a plan take a step, in order of number: those that are still to be read.
use Rattle.std.specs.Prelude.{◌≡◌, ℕ, ◌+◌, ◌<◌, ◌≤◌, ◌⊎◌, Bool, true, false, Some, List, [], map, length, get_or, slice_get}
use Rattle.tw_rows.specs.declared.edge.Edge.{Edge}
use Rattle.tw_rows.specs.declared.kind.CellKind.{CellKind}
use Rattle.edge_stream.specs.Listing.{EdgeListView}
use Rattle.plan_model.specs.declared.node.Node.{Node}
use Rattle.plan_model.specs.declared.expr.ExprNode.{ExprNode}
use Rattle.plan_model.specs.declared.node.Node.TheVariants.{Source, Union, Join, Anti, Clip, Follow}
use Rattle.plan_model.specs.IsPlan.{PlanParts, kinds_of_stream, kinds_at}
use Rattle.plan_model.specs.Meaning.{left_child, right_child}
use Rattle.where_select.specs.Texts.{nodes_of_items, nodes_in}
use Rattle.dataflow.specs.declared.stage.Stage.{Stage}
use Rattle.dataflow.specs.Lists.{IsListOf}
use Rattle.dataflow.specs.Stages.{left_kinds, right_kinds, IsReady, StageKeeps, StandsAsMade}

-- the list of these edges
pub record IsListWith (texts : List (List ℕ)) (capacity : ℕ) (kinds : List CellKind) (edges : List Edge) (l : EdgeListView) : Type 0 where
  pub list : IsListOf texts capacity kinds l
  pub same : l.edges ≡ edges

-- a node from the number `from` on reads the node of number k
abbrev pub IsRead : PlanParts → ℕ → ℕ → Type 0
IsRead plan from k =
    (j : ℕ) × ((n : Node) × ((from ≤ j) × ((slice_get plan.nodes j ≡ Some n) × ((left_child n ≡ Some k) ⊎ (right_child n ≡ Some k)))))

-- and so it is, or it is the root. Of a source 0 and a where 1 over it, the root, 0 is needed from 1 on, and 1 from 2 on
abbrev pub IsNeeded : PlanParts → ℕ → ℕ → Type 0
IsNeeded plan from k = (k ≡ plan.root) ⊎ IsRead plan from k

-- the node of number i reads that of number k on the right, or it is needed later. Of a join 2 of 0 and 1, the root, 1 is
abbrev pub IsNeededRight : PlanParts → ℕ → ℕ → Type 0
IsNeededRight plan i k = ((n : Node) × ((slice_get plan.nodes i ≡ Some n) × (right_child n ≡ Some k))) ⊎ IsNeeded plan (i + 1) k

-- a source from the number `from` on reads the stream
abbrev pub IsNeededStream : PlanParts → ℕ → ℕ → Type 0
IsNeededStream plan from stream = (j : ℕ) × ((from ≤ j) × (slice_get plan.nodes j ≡ Some (Source stream)))

-- the lists that are needed are there, those of streams and those that nodes made
pub record AreHeld (texts : List (List ℕ)) (capacity : ℕ) (plan : PlanParts) (of_stream of_node : ℕ → Type 0) (given more : ℕ → List Edge)
    (streams made : List EdgeListView) : Type 0 where
  pub of_streams : (s : ℕ) (d : EdgeListView) → s < length streams → of_stream s →
      IsListWith texts capacity (kinds_of_stream plan.streams s) (given s) (get_or streams s d)
  pub of_nodes : (k : ℕ) (d : EdgeListView) → k < length made → of_node k →
      IsListWith texts capacity (kinds_at plan.schemas k) (more k) (get_or made k d)

-- those that are needed from the node i on; those once it took its left list; and those once it took both
abbrev pub HeldBefore : List (List ℕ) → ℕ → PlanParts → ℕ → (ℕ → List Edge) → (ℕ → List Edge) → List EdgeListView → List EdgeListView → Type 0
HeldBefore texts capacity plan i given more streams made =
    AreHeld texts capacity plan (IsNeededStream plan i) (IsNeeded plan i) given more streams made

abbrev pub HeldBetween : List (List ℕ) → ℕ → PlanParts → ℕ → (ℕ → List Edge) → (ℕ → List Edge) → List EdgeListView → List EdgeListView → Type 0
HeldBetween texts capacity plan i given more streams made =
    AreHeld texts capacity plan (IsNeededStream plan (i + 1)) (IsNeededRight plan i) given more streams made

-- there is a stage for each node, and each stands as it was made: nothing came in, nothing was answered
pub record AreFresh (texts : List (List ℕ)) (capacity : ℕ) (plan : PlanParts) (stages : List Stage) : Type 0 where
  pub count : length stages ≡ length plan.nodes
  pub ready : (i : ℕ) (n : Node) (s : Stage) → slice_get plan.nodes i ≡ Some n → slice_get stages i ≡ Some s →
      IsReady texts capacity (left_kinds plan n) (right_kinds plan n) n s 0 0
  pub opens : (i : ℕ) (n : Node) (s : Stage) → slice_get plan.nodes i ≡ Some n → slice_get stages i ≡ Some s →
      StageKeeps texts n s 0 0 [] [] []
  pub made : (i : ℕ) (s : Stage) → slice_get stages i ≡ Some s → StandsAsMade s

-- the nodes of the expressions of a plan's nodes, one node after another
abbrev pub nodes_in_all : List Node → List ExprNode
nodes_in_all nodes = nodes_of_items (map nodes_in nodes)

-- a node with two children
abbrev pub has_two : Node → Bool
has_two (Union left right) = true
has_two (Join left right left_key right_key) = true
has_two (Anti left right left_key right_key) = true
has_two (Clip left right left_key right_key) = true
has_two (Follow left right left_key right_key within) = true
has_two n = false
