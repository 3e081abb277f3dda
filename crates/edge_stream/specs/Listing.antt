-- What contracts see of an `EdgeList`. `IsOf`, `IsListing` and `last_room` are cited by its model and by private contracts alone.
use Rattle.std.specs.Prelude.{◌≡◌, ℕ, zero, suc, ◌+◌, ◌-◌, ◌*◌, ◌<◌, ◌≤◌, List, [], ◌∷◌, ◌++◌, length, map, All, flat_map}
use Rattle.tw_rows.specs.declared.edge.Edge.{Edge}
use Rattle.tw_rows.specs.declared.kind.Kind.{Kind}
use Rattle.tw_rows.specs.declared.kind.CellKind.{CellKind}
use Rattle.tw_rows.specs.Kinds.{cell_kind_of}
use Rattle.batch.specs.Rows.{Table, edges_of}
use Rattle.edge_history.specs.Order.{KeepsOrder}

-- the edges in order, the kinds of the columns, the capacity of the batches, how many batches there are, and how many rows
-- more the last one takes (0 where there is none)
pub record EdgeListView : Type 0 where
  pub edges : List Edge
  pub kinds : List Kind
  pub capacity : ℕ
  pub batches : ℕ
  pub room : ℕ

-- how the cells of each column are stored
abbrev pub cells_of : EdgeListView → List CellKind
cells_of l = map cell_kind_of l.kinds

-- the first where there is no room for a row more, and else the second
abbrev pub where_full : {X : Type 0} → ℕ → X → X → X
where_full zero full other = full
where_full (suc room) full other = other

-- the list with a new batch last
abbrev pub opened : EdgeListView → EdgeListView
opened l = record l { batches = l.batches + 1; room = l.capacity }

-- the list with a new batch where its last one is full, and else as it is
abbrev pub with_room : EdgeListView → EdgeListView
with_room l = where_full l.room (opened l) l

-- the list with the edge last. With capacity 2 and no room an edge opens a batch, which then has room for one more
abbrev pub appended : EdgeListView → Edge → EdgeListView
appended l e = record (with_room l) { edges = l.edges ++ e ∷ []; room = (with_room l).room - 1 }

-- each batch is full, but for the room that the last one has: 5 edges at capacity 2 are in 3 batches, with room for 1
pub record IsFilled (l : EdgeListView) : Type 0 where
  pub count : l.batches * l.capacity ≡ length l.edges + l.room
  pub part : l.room < l.capacity

-- the edges of batches, one batch after another
abbrev pub edges_in : List Table → List Edge
edges_in batches = flat_map (λ b. edges_of b.rows) batches

-- how many rows more the last batch takes
abbrev pub last_room : List Table → ℕ
last_room [] = 0
last_room (b ∷ []) = b.capacity - length b.rows
last_room (b ∷ c ∷ bs) = last_room (c ∷ bs)

-- the batch is of these kinds and this capacity
pub record IsOf (kinds : List CellKind) (capacity : ℕ) (b : Table) : Type 0 where
  pub same_kinds : b.kinds ≡ kinds
  pub same_capacity : b.capacity ≡ capacity

-- the batches are alike, and their edges keep the rule
pub record IsListing (kinds : List CellKind) (capacity : ℕ) (batches : List Table) : Type 0 where
  pub order : KeepsOrder (edges_in batches)
  pub alike : All (IsOf kinds capacity) batches
  pub room : 1 ≤ capacity
  pub width : length kinds ≤ 32

-- the kinds and the capacity stay
pub record SameShape (old new : EdgeListView) : Type 0 where
  pub kinds : new.kinds ≡ old.kinds
  pub capacity : new.capacity ≡ old.capacity
