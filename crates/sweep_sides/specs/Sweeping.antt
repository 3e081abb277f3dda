-- A step of a sweep.
use Rattle.std.specs.Prelude.{◌≡◌, ℕ, List, ◌++◌}
use Rattle.tw_rows.specs.Bag.{SameBag}
use Rattle.tw_rows.specs.declared.edge.Edge.{Edge}
use Rattle.tw_rows.specs.declared.kind.CellKind.{CellKind}
use Rattle.batch.specs.PoolsView.{PoolsView}
use Rattle.edge_history.specs.Balance.{news}
use Rattle.edge_history.specs.History.{CellEvent, of}
use Rattle.edge_history.specs.Order.{failing, is_from, IsHistory}
use Rattle.edge_stream.specs.Listing.{EdgeListView, cells_of}
use Rattle.edge_stream.specs.Taking.{batches_given}
use Rattle.plan_model.specs.declared.node.Node.{Node}
use Rattle.plan_model.specs.Nodes.{node_in}
use Rattle.plan_laws.specs.Keeping.{plain_cells}
use Rattle.sweep_laws.specs.Saving.{store_all}

-- the events of a node over rows of cells, of those that the edges of its sides tell
abbrev pub told_events : Node → List Edge → List Edge → List CellEvent
told_events n hl hr = node_in plain_cells n (of hl) (of hr)

-- columns of these kinds store the row of each event
abbrev pub AreStored : List CellKind → List CellEvent → Type 0
AreStored kinds events = failing (λ e. store_all kinds e.row) events ≡ 0

-- what a sweep keeps up to a time, of the edges that came in on both sides and of those that it told
abbrev pub Keeping : Type 1
Keeping = ℕ → List Edge → List Edge → List Edge → Type 0

-- the edges l and r may come behind hl and hr, on sides that are closed up to x and y. Behind a start at 3, on a side closed
-- up to 4, its end at 5 may come
pub record ComeOn (x y : ℕ) (hl hr l r : List Edge) : Type 0 where
  pub left_history : IsHistory (hl ++ l)
  pub right_history : IsHistory (hr ++ r)
  pub left_from : failing (is_from x) l ≡ 0
  pub right_from : failing (is_from y) r ≡ 0

-- swept from one closing of the node to another, after hl and hr came in: what is told now is what happens between both
pub record HasSwept (n : Node) (keeps : Keeping) (from to : ℕ) (hl hr out told : List Edge) : Type 0 where
  pub kept : keeps to hl hr (out ++ told)
  pub tells : SameBag told (news from to (told_events n hl hr))

-- once the columns of both lists are given back to the pools
abbrev pub both_given : EdgeListView → EdgeListView → PoolsView → PoolsView
both_given left right pools = batches_given right.batches (batches_given left.batches pools (cells_of left)) (cells_of right)
