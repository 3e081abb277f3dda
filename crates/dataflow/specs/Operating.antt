-- Operators in a plan: how they stand, when they can take a step of a node, and what a step owes.
use Rattle.std.specs.Prelude.{◌≡◌, ℕ, ◌≤◌, false, Option, List, ◌++◌}
use Rattle.tw_rows.specs.Event.{Event, alive}
use Rattle.tw_rows.specs.Rows.{Row}
use Rattle.tw_rows.specs.declared.edge.Edge.{Edge}
use Rattle.tw_rows.specs.declared.kind.CellKind.{CellKind}
use Rattle.edge_history.specs.History.{of}
use Rattle.edge_history.specs.Order.{is_from, failing}
use Rattle.edge_stream.specs.Listing.{EdgeListView, cells_of}
use Rattle.plan_model.specs.declared.node.Node.{Node}
use Rattle.plan_model.specs.declared.node.Node.TheVariants.{Union, Delay, Hop, Duration, Extend, Session, Clip, Group, Join, Anti, Coalesce, Mean, Top, Follow}
use Rattle.plan_model.specs.IsPlan.{node_kinds}
use Rattle.plan_model.specs.Keys.{value_ops}
use Rattle.plan_model.specs.Meaning.{node_events, node_closes}
use Rattle.plan_laws.specs.Undefined.{undefined_over, first_below}
use Rattle.plan_laws.specs.Places.{AreDistinct, read_of}
use Rattle.edge_stream.specs.Standing.{Standing, Keeping, may_keep}
use Rattle.edge_stream.specs.Steps.{MayCome}

-- both nodes mean the same of what they read, and may keep as much. A Delay by 5 over the node 0 means the same as one over the node 3
pub record MeanAlike (n m : Node) : Type 0 where
  pub events : (left right : List (Event Row)) → node_events m left right ≡ node_events n left right
  pub closes : (x y : ℕ) → node_closes m x y ≡ node_closes n x y
  pub undefined : (rows : List Row) → undefined_over value_ops m rows ≡ undefined_over value_ops n rows
  pub held : (x y : ℕ) (hl hr : List Edge) → may_keep m x y hl hr ≡ may_keep n x y hl hr

-- the node over the children 0 and 1, as an operator names its node: a Delay by 5 over the node 3 is one over the node 0
abbrev pub over_two : Node → Node
over_two (Union left right) = Union 0 1
over_two (Delay of by) = Delay 0 by
over_two (Hop of size period) = Hop 0 size period
over_two (Duration of by) = Duration 0 by
over_two (Extend of by) = Extend 0 by
over_two (Session of timeout key) = Session 0 timeout key
over_two (Clip left right left_key right_key) = Clip 0 1 left_key right_key
over_two (Group of key aggs) = Group 0 key aggs
over_two (Join left right left_key right_key) = Join 0 1 left_key right_key
over_two (Anti left right left_key right_key) = Anti 0 1 left_key right_key
over_two (Coalesce of) = Coalesce 0
over_two (Mean of at) = Mean 0 at
over_two (Top of key by count) = Top 0 key by count
over_two (Follow left right left_key right_key within) = Follow 0 1 left_key right_key within
over_two n = n

-- an operator that stands so can take a step of the node, over lists of columns that are stored as `left` and `right`, in
-- batches of the capacity; its sides are closed up to x and y. One of which a step failed can take none
pub record CanOperate (capacity : ℕ) (left right : List CellKind) (n : Node) (s : Standing) (x y : ℕ) : Type 0 where
  pub node : MeanAlike n s.node
  pub named : s.node ≡ over_two n
  pub works : s.has_failed ≡ false
  pub left_closed : s.left_closed ≡ x
  pub right_closed : s.right_closed ≡ y
  pub left_kinds : s.left_kinds ≡ left
  pub right_kinds : s.right_kinds ≡ right
  pub own_kinds : s.own_kinds ≡ node_kinds n left right
  pub batch_rows : s.batch_rows ≡ capacity

-- such a step of some node, over these two lists, which closes its sides up to u and v
pub record CanOperateOn (left right : EdgeListView) (s : Standing) (u v : ℕ) : Type 0 where
  pub node : Node
  pub x : ℕ
  pub y : ℕ
  pub can : CanOperate left.capacity (cells_of left) (cells_of right) node s x y
  pub left_rises : x ≤ u
  pub right_rises : y ≤ v

-- it can take a further step of whatever node it could take one of
abbrev pub StaysOperating : EdgeListView → EdgeListView → Standing → Standing → ℕ → ℕ → Type 0
StaysOperating left right old new u v = (n : Node) (x y : ℕ) → CanOperate left.capacity (cells_of left) (cells_of right) n old x y →
    CanOperate left.capacity (cells_of left) (cells_of right) n new u v

-- whatever it kept it keeps with the new lists and the answer, which comes at the node's last closing or later
abbrev pub KeepsOperating : EdgeListView → EdgeListView → Standing → Keeping → Keeping → ℕ → ℕ → EdgeListView → Type 0
KeepsOperating left right old kept keeps u v answer = (texts : List (List ℕ)) (n : Node) (x y : ℕ) (hl hr out : List Edge) →
    CanOperate left.capacity (cells_of left) (cells_of right) n old x y → kept texts hl hr out →
    MayCome texts x hl left.edges → MayCome texts y hr right.edges →
    keeps texts (hl ++ left.edges) (hr ++ right.edges) (out ++ answer.edges) × (failing (is_from (node_closes n x y)) answer.edges ≡ 0)

-- the least instant below c at which the node is undefined over the events of the edges hl, read
abbrev pub first_undefined_read : List (List ℕ) → Node → List Edge → ℕ → Option ℕ
first_undefined_read texts n hl c = first_below (λ t. undefined_over value_ops n (alive (read_of texts hl) t)) c

-- over what came in with the new lists the node is undefined first at that instant below its new closing, or at none
abbrev pub OperatesUndefinedAt : EdgeListView → EdgeListView → Standing → Keeping → ℕ → ℕ → Option ℕ → Type 0
OperatesUndefinedAt left right old kept u v found = (texts : List (List ℕ)) (n : Node) (x y : ℕ) (hl hr out : List Edge) → AreDistinct texts →
    CanOperate left.capacity (cells_of left) (cells_of right) n old x y → kept texts hl hr out → MayCome texts x hl left.edges →
    first_undefined_read texts n (hl ++ left.edges) (node_closes n u v) ≡ found

-- the answer is of the node's columns
abbrev pub OperatesOver : EdgeListView → EdgeListView → Standing → EdgeListView → Type 0
OperatesOver left right old answer = (n : Node) (x y : ℕ) → CanOperate left.capacity (cells_of left) (cells_of right) n old x y →
    cells_of answer ≡ node_kinds n (cells_of left) (cells_of right)
