-- What contracts see of a `Cursor`.
use Rattle.std.specs.Prelude.{◌≡◌, ℕ, nat_lt, Bool, true, false, List, [], ◌∷◌, ◌++◌, map, drop, All, slice_get, Option, Some, None, IsSome}
use Rattle.occupancy.specs.Bits.{is_set_at}
use Rattle.tw_rows.specs.declared.edge.Edge.{Edge}
use Rattle.tw_rows.specs.declared.kind.CellKind.{CellKind}
use Rattle.batch.specs.Rows.{Table, edges_of}
use Rattle.edge_history.specs.Order.{rank}
use Rattle.edge_stream.specs.Listing.{edges_in}

-- the edges that are still to come, and how their cells are stored
pub record Unread : Type 0 where
  pub edges : List Edge
  pub kinds : List CellKind

-- the edges of the batches where the first one is read from a row on
abbrev pub edges_from : ℕ → List Table → List Edge
edges_from row [] = []
edges_from row (b ∷ bs) = edges_of (drop row b.rows) ++ edges_in bs

-- where there is a batch at the place, its row is occupied
abbrev pub IsAtEdge : List Table → ℕ → ℕ → Type 0
IsAtEdge batches place row = (b : Table) → slice_get batches place ≡ Some b → is_set_at (map (λ r. r.occupied) b.rows) row ≡ true

-- each batch is of these kinds
abbrev pub AreOfKinds : List CellKind → List Table → Type 0
AreOfKinds kinds batches = All (λ b. b.kinds ≡ kinds) batches

-- each batch is of these kinds, and the row to go on with holds an edge
pub record IsReading (kinds : List CellKind) (batches : List Table) (place row : ℕ) : Type 0 where
  pub alike : AreOfKinds kinds batches
  pub at : IsAtEdge batches place row

-- the rank of the first edge, if there is one
abbrev pub rank_ahead : List Edge → Option ℕ
rank_ahead [] = None
rank_ahead (e ∷ es) = Some (rank e)

-- the rank of the last edge, if there is one
abbrev pub last_rank : List Edge → Option ℕ
last_rank [] = None
last_rank (e ∷ []) = Some (rank e)
last_rank (e ∷ f ∷ es) = last_rank (f ∷ es)

-- the sync of the first edge, if there is one
abbrev pub first_sync : List Edge → Option ℕ
first_sync [] = None
first_sync (e ∷ es) = Some e.sync

-- the first rank is there, and the second is not, or is greater
abbrev pub is_below_rank : Option ℕ → Option ℕ → Bool
is_below_rank None other = false
is_below_rank (Some r) None = true
is_below_rank (Some r) (Some s) = nat_lt r s

-- the cursor has a next edge, and no other one's comes before it
pub record IsFirst (c : Unread) (cursors : List Unread) : Type 0 where
  pub some : IsSome (rank_ahead c.edges)
  pub least : All (λ other. is_below_rank (rank_ahead other.edges) (rank_ahead c.edges) ≡ false) cursors
