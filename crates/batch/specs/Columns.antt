-- The columns of a batch, and the rows that they hold.
use Rattle.std.specs.Prelude.{◌≡◌, ℕ, suc, ◌≤◌, Bool, false, List, [], ◌∷◌, map, length, slice_index_or, All}
use Rattle.std.specs.List.{range_with_len}
use Rattle.tw_rows.specs.Instant.{inf}
use Rattle.batch.specs.declared.payload.Payload.{Payload}
use Rattle.batch.specs.Rows.{Row}
use Rattle.batch.specs.Payloads.{payload_data, payload_capacity, cells_at}

-- the columns, each with its items in order
pub record Columns : Type 0 where
  pub sync : List ℕ
  pub other : List ℕ
  pub key : List ℕ
  pub hash : List ℕ
  pub payload : List Payload
  pub occupied : List Bool

-- the row at a place
abbrev pub row_at : Columns → ℕ → Row
row_at c i = record {
  sync = slice_index_or c.sync i 0;
  other = slice_index_or c.other i 0;
  key = slice_index_or c.key i 0;
  hash = slice_index_or c.hash i 0;
  cells = cells_at c.payload i;
  occupied = slice_index_or c.occupied i false;
}

-- the rows in order
abbrev pub rows_of : Columns → List Row
rows_of c = map (row_at c) (range_with_len 0 (length c.sync))

-- a payload column with as many cells as there are rows, and of the batch's capacity
pub record IsColumn (count capacity : ℕ) (p : Payload) : Type 0 where
  pub cells : length (payload_data p) ≡ count
  pub room : payload_capacity p ≡ capacity

-- the columns are equally long, and their times are instants or infinity
pub record AreColumns (capacity : ℕ) (c : Columns) : Type 0 where
  pub other : length c.other ≡ length c.sync
  pub key : length c.key ≡ length c.sync
  pub hash : length c.hash ≡ length c.sync
  pub occupied : length c.occupied ≡ length c.sync
  pub payload : All (IsColumn (length c.sync) capacity) c.payload
  pub sync_times : All (λ t. t ≤ inf) c.sync
  pub other_times : All (λ t. t ≤ inf) c.other

-- the columns of a batch, and that its other columns have the room of its first
pub record IsBatch (capacity other_capacity key_capacity hash_capacity occupied_capacity : ℕ) (c : Columns) : Type 0 where
  pub columns : AreColumns capacity c
  pub other_room : other_capacity ≡ capacity
  pub key_room : key_capacity ≡ capacity
  pub hash_room : hash_capacity ≡ capacity
  pub occupied_room : occupied_capacity ≡ capacity

-- the rows from a place on, each with its cells from these columns
abbrev pub with_cells : List Payload → ℕ → List Row → List Row
with_cells columns place [] = []
with_cells columns place (r ∷ rs) = record r { cells = cells_at columns place } ∷ with_cells columns (suc place) rs
