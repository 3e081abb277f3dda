-- The operator of a sweep: what it keeps between its steps.
use Rattle.std.specs.Prelude.{◌≡◌, ℕ, ◌≤◌, false, Bool, List, All, length, map}
use Rattle.tw_rows.specs.Cells.{datum_kind}
use Rattle.tw_rows.specs.Instant.{inf}
use Rattle.tw_rows.specs.Kinds.{cell_kind_of}
use Rattle.tw_rows.specs.declared.edge.Edge.{Edge}
use Rattle.tw_rows.specs.declared.kind.CellKind.{CellKind}
use Rattle.tw_rows.specs.declared.kind.Kind.{Kind}
use Rattle.edge_history.specs.Order.{IsHistory}
use Rattle.plan_model.specs.declared.node.Node.{Node}
use Rattle.plan_model.specs.IsPlan.{node_kinds}
use Rattle.plan_model.specs.Meaning.{node_closes}
use Rattle.plan_laws.specs.Places.{EdgesArePlaced}
use Rattle.edge_stream.specs.Standing.{Standing}
use Rattle.sweep_sides.specs.Sweeping.{Keeping}

-- the columns of the node, of children with such columns: not too many, in batches with room for a row
pub record HasColumns (n : Node) (left right own : List Kind) (capacity : ℕ) : Type 0 where
  pub kinds : map cell_kind_of own ≡ node_kinds n (map cell_kind_of left) (map cell_kind_of right)
  pub width : length own ≤ 32
  pub room : 1 ≤ capacity

-- no side is closed, and no step failed
pub record IsUnused (x y : ℕ) (failed : Bool) : Type 0 where
  pub left : x ≡ 0
  pub right : y ≡ 0
  pub works : failed ≡ false

-- hl and hr came in on sides that are closed up to x and y, with such columns, and their places are in the table
pub record HaveCome (lc rc : List CellKind) (x y : ℕ) (texts : List (List ℕ)) (hl hr : List Edge) : Type 0 where
  pub left_low : x ≤ inf
  pub right_low : y ≤ inf
  pub left_history : IsHistory hl
  pub right_history : IsHistory hr
  pub left_placed : EdgesArePlaced texts hl
  pub right_placed : EdgesArePlaced texts hr
  pub left_cells : All (λ e. map datum_kind e.cells ≡ lc) hl
  pub right_cells : All (λ e. map datum_kind e.cells ≡ rc) hr

-- and the sweep is as it can be after that, swept up to the closing of its node
pub record SweptKeeps (n : Node) (keeps : Keeping) (lc rc : List CellKind) (x y : ℕ) (texts : List (List ℕ)) (hl hr out : List Edge) : Type 0 where
  pub came : HaveCome lc rc x y texts hl hr
  pub kept : keeps (node_closes n x y) hl hr out

-- the same of saved entries, which are sound
pub record SweptResumes (n : Node) (is_sound : Type 0) (resumes : Keeping) (lc rc : List CellKind) (x y : ℕ) (texts : List (List ℕ))
    (hl hr out : List Edge) : Type 0 where
  pub sound : is_sound
  pub came : HaveCome lc rc x y texts hl hr
  pub kept : resumes (node_closes n x y) hl hr out

-- how a sweep of the node stands before its first step, with columns of these kinds
abbrev pub new_standing : Node → List Kind → List Kind → List Kind → ℕ → Standing
new_standing n left right own capacity = record {
  node = n;
  left_closed = 0;
  right_closed = 0;
  left_kinds = map cell_kind_of left;
  right_kinds = map cell_kind_of right;
  own_kinds = map cell_kind_of own;
  batch_rows = capacity;
  has_failed = false;
}
