-- Lists of edges by number, as a step is given them.
use Rattle.std.specs.Prelude.{◌≡◌, ℕ, List, length, slice_get, Some}
use Rattle.tw_rows.specs.declared.edge.Edge.{Edge}
use Rattle.tw_rows.specs.declared.kind.CellKind.{CellKind}
use Rattle.edge_history.specs.Order.{is_from, failing}
use Rattle.edge_stream.specs.Listing.{EdgeListView, cells_of}
use Rattle.plan_model.specs.IsPlan.{PlanParts, kinds_of_stream}
use Rattle.plan_laws.specs.Places.{EdgesArePlaced}

-- the edges of each list come at c or later
abbrev pub AreFrom : ℕ → (ℕ → List Edge) → Type 0
AreFrom c lists = (k : ℕ) → failing (is_from c) (lists k) ≡ 0

-- the list is one of columns that are stored so, in batches of this capacity, and its places are in the table. A column of
-- decimals with 2 places is stored as whole numbers, as a column of ints is
pub record IsListOf (texts : List (List ℕ)) (capacity : ℕ) (kinds : List CellKind) (l : EdgeListView) : Type 0 where
  pub cells : cells_of l ≡ kinds
  pub rows : l.capacity ≡ capacity
  pub placed : EdgesArePlaced texts l.edges

-- there is a list for each stream, of the stream's columns, in batches of this capacity
pub record AreOfStreams (capacity : ℕ) (plan : PlanParts) (given : List EdgeListView) : Type 0 where
  pub count : length given ≡ length plan.streams
  pub cells : (s : ℕ) (l : EdgeListView) → slice_get given s ≡ Some l → cells_of l ≡ kinds_of_stream plan.streams s
  pub rows : (s : ℕ) (l : EdgeListView) → slice_get given s ≡ Some l → l.capacity ≡ capacity

-- and all their places are in the table
pub record AreGiven (texts : List (List ℕ)) (capacity : ℕ) (plan : PlanParts) (given : List EdgeListView) : Type 0 where
  pub count : length given ≡ length plan.streams
  pub each : (s : ℕ) (l : EdgeListView) → slice_get given s ≡ Some l →
      IsListOf texts capacity (kinds_of_stream plan.streams s) l
