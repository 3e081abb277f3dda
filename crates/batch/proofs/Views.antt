-- What the fields of a batch say of the rows that contracts see, and what its rows are after a change.
use Rattle.std.proofs.Common.{◌≡◌, ℕ, ◌<◌, ◌≤◌, Bool, false, List, [], ◌∷◌, ◌++◌, map, length, get_or, refl, ap, sym, ◌∙◌, subst, arith}
use Rattle.std.specs.Prelude.{All, Some, slice_get, count_by}
use Rattle.std.proofs.lemmas.List.{length-map, get_or-map}
use Rattle.std.proofs.lemmas.Option.{slice_get-get_or, get_or_from_slice_get}
use Rattle.std.proofs.lemmas.List.Elements.{All-nil}
use Rattle.std.proofs.lemmas.List.Sums.{length-filter}
use Rattle.occupancy.proofs.Filtered.{count_by-map}
use Rattle.tw_rows.specs.declared.edge.Edge.{Edge}
use Rattle.tw_rows.specs.Instant.{inf}
use Rattle.tw_rows.specs.Cells.{datum_kind}
use Rattle.tw_rows.specs.declared.kind.CellKind.{CellKind}
use Rattle.occupancy.specs.Bits.{Bits}
use Rattle.batch.specs.declared.payload.Payload.{Payload}
use Rattle.batch.specs.declared.batch.Batch.TheInside.{Inside}
use Rattle.batch.specs.contracts.batch.Batch.{the_view}
use Rattle.batch.specs.Rows.{Row, Table, edge_of, occupied_rows, cell_column}
use Rattle.batch.specs.Payloads.{payload_kind, payload_data, payload_clear, pushed, cells_at, HasRoom, Reaches}
use Rattle.batch.specs.Columns.{Columns, row_at, rows_of, IsColumn, AreColumns, IsBatch}
use Rattle.batch.proofs.Pushing.{All-HasRoom, All-Reaches, kinds-pushed, columns-cleared, kinds-cleared}
use Rattle.batch.proofs.Tables.{length-rows_of, get_or-rows_of, with_row, rows_of-push, AreColumns-push, occupied-rows_of, syncs-rows_of, others-rows_of, hashes-rows_of, cell_column-rows_of}

abbrev pub columns_of : Inside → Columns
columns_of b = record { sync = b.sync.items; other = b.other.items; key = b.key.items; hash = b.hash.items; payload = b.payload.items; occupied = b.occupied.items }

abbrev pub Holds : Inside → Type 0
Holds b = IsBatch b.sync.capacity b.other.capacity b.key.capacity b.hash.capacity b.occupied.capacity (columns_of b)

pub table_is : (rows : List Row) (capacity : ℕ) (kinds : List CellKind) (t : Table) → rows ≡ t.rows → capacity ≡ t.capacity → kinds ≡ t.kinds → record { rows = rows; capacity = capacity; kinds = kinds } ≡ t
table_is rows capacity kinds t p q r = λ i. record { rows = p i; capacity = q i; kinds = r i }

pub bits_are : (o b : Bits) → o.items ≡ b.items → o.capacity ≡ b.capacity → o ≡ b
bits_are o b p q = λ i. record { items = p i; capacity = q i }

module _ (b : Inside) (t : Table) (is : the_view b ≡ t) (holds : Holds b) where
  pub rows_are : rows_of (columns_of b) ≡ t.rows
  rows_are = ap (λ v. v.rows) is

  pub capacity_is : b.sync.capacity ≡ t.capacity
  capacity_is = ap (λ v. v.capacity) is

  pub kinds_are : map payload_kind b.payload.items ≡ t.kinds
  kinds_are = ap (λ v. v.kinds) is

  pub length_is : length t.rows ≡ length b.sync.items
  length_is = ap length (sym rows_are) ∙ length-rows_of (columns_of b)

  pub within_is : length b.sync.items ≤ b.sync.capacity → length t.rows ≤ t.capacity
  within_is h = omega (arith, h, length_is, capacity_is)

  -- the columns are as long as there are rows, and of the capacity
  pub columns_inside : (ps : List Payload) → All (IsColumn (length t.rows) t.capacity) ps → All (IsColumn (length b.sync.items) b.sync.capacity) ps
  columns_inside ps all = subst (λ n. All (IsColumn n b.sync.capacity) ps) length_is (subst (λ n. All (IsColumn (length t.rows) n) ps) (sym capacity_is) all)

  pub columns_outside : All (IsColumn (length t.rows) t.capacity) b.payload.items
  columns_outside = subst (λ n. All (IsColumn n t.capacity) b.payload.items) (sym length_is) (subst (λ n. All (IsColumn (length b.sync.items) n) b.payload.items) capacity_is holds.columns.payload)

  -- a row's place is one in each column
  module _ (i : ℕ) (lt : i < length t.rows) where
    pub sync_place : i < length b.sync.items
    sync_place = omega (arith, lt, length_is)

    pub other_place : i < length b.other.items
    other_place = omega (arith, lt, length_is, holds.columns.other)

    pub key_place : i < length b.key.items
    key_place = omega (arith, lt, length_is, holds.columns.key)

    pub hash_place : i < length b.hash.items
    hash_place = omega (arith, lt, length_is, holds.columns.hash)

    pub occupied_place : i < length b.occupied.items
    occupied_place = omega (arith, lt, length_is, holds.columns.occupied)

    pub payload_place : All (Reaches i) b.payload.items
    payload_place = All-Reaches (length b.sync.items) b.sync.capacity i b.payload.items holds.columns.payload sync_place

  -- where there is room for a row, each column has room
  module _ (lt : length t.rows < t.capacity) where
    pub sync_room : length b.sync.items < b.sync.capacity
    sync_room = omega (arith, lt, length_is, capacity_is)

    pub other_room : length b.other.items < b.other.capacity
    other_room = omega (arith, sync_room, holds.columns.other, holds.other_room)

    pub key_room : length b.key.items < b.key.capacity
    key_room = omega (arith, sync_room, holds.columns.key, holds.key_room)

    pub hash_room : length b.hash.items < b.hash.capacity
    hash_room = omega (arith, sync_room, holds.columns.hash, holds.hash_room)

    pub occupied_room : length b.occupied.items < b.occupied.capacity
    occupied_room = omega (arith, sync_room, holds.columns.occupied, holds.occupied_room)

    pub payload_room : All HasRoom b.payload.items
    payload_room = All-HasRoom (length b.sync.items) b.sync.capacity b.payload.items holds.columns.payload sync_room

  -- a batch whose columns got a row
  module _ (r : Row) (n : Inside)
      (sync : n.sync ≡ record b.sync { items = b.sync.items ++ r.sync ∷ [] }) (other : n.other ≡ record b.other { items = b.other.items ++ r.other ∷ [] })
      (key : n.key ≡ record b.key { items = b.key.items ++ r.key ∷ [] }) (hash : n.hash ≡ record b.hash { items = b.hash.items ++ r.hash ∷ [] })
      (payload : n.payload.items ≡ pushed b.payload.items r.cells) (occupied : n.occupied ≡ record b.occupied { items = b.occupied.items ++ r.occupied ∷ [] })
      (kinds : map datum_kind r.cells ≡ map payload_kind b.payload.items) where
    columns_are : columns_of n ≡ with_row (columns_of b) r
    columns_are = λ i. record { sync = (sync i).items; other = (other i).items; key = (key i).items; hash = (hash i).items; payload = payload i; occupied = (occupied i).items }

    sync_capacity : n.sync.capacity ≡ b.sync.capacity
    sync_capacity = ap (λ x. x.capacity) sync

    pub Holds-push : r.sync ≤ inf → r.other ≤ inf → Holds n
    Holds-push sync_time other_time = record {
      columns = subst (λ c. AreColumns n.sync.capacity c) (sym columns_are)
          (subst (λ m. AreColumns m (with_row (columns_of b) r)) (sym sync_capacity) (AreColumns-push b.sync.capacity (columns_of b) r holds.columns kinds sync_time other_time));
      other_room = ap (λ x. x.capacity) other ∙ holds.other_room ∙ sym sync_capacity;
      key_room = ap (λ x. x.capacity) key ∙ holds.key_room ∙ sym sync_capacity;
      hash_room = ap (λ x. x.capacity) hash ∙ holds.hash_room ∙ sym sync_capacity;
      occupied_room = ap (λ x. x.capacity) occupied ∙ holds.occupied_room ∙ sym sync_capacity;
    }

    pub view-push : the_view n ≡ record t { rows = t.rows ++ r ∷ [] }
    view-push = table_is _ _ _ (record t { rows = t.rows ++ r ∷ [] })
        (ap rows_of columns_are ∙ rows_of-push b.sync.capacity (columns_of b) r holds.columns kinds ∙ ap (λ rs. rs ++ r ∷ []) rows_are)
        (sync_capacity ∙ capacity_is)
        (ap (map payload_kind) payload ∙ kinds-pushed b.payload.items r.cells ∙ kinds_are)

  pub bits_of_rows : map (λ r. r.occupied) t.rows ≡ b.occupied.items
  bits_of_rows = ap (map (λ r. r.occupied)) (sym rows_are) ∙ occupied-rows_of b.sync.capacity (columns_of b) holds.columns

  pub syncs_of_rows : map (λ r. r.sync) t.rows ≡ b.sync.items
  syncs_of_rows = ap (map (λ r. r.sync)) (sym rows_are) ∙ syncs-rows_of (columns_of b)

  pub hashes_of_rows : map (λ r. r.hash) t.rows ≡ b.hash.items
  hashes_of_rows = ap (map (λ r. r.hash)) (sym rows_are) ∙ hashes-rows_of b.sync.capacity (columns_of b) holds.columns

  pub others_of_rows : map (λ r. r.other) t.rows ≡ b.other.items
  others_of_rows = ap (map (λ r. r.other)) (sym rows_are) ∙ others-rows_of b.sync.capacity (columns_of b) holds.columns

  pub cells_of_rows : (n : ℕ) (p : Payload) → n < length b.payload.items → p ≡ get_or b.payload.items n p → payload_data p ≡ cell_column t.rows n
  cells_of_rows n p lt is' = sym (cell_column-rows_of b.sync.capacity (columns_of b) n p holds.columns lt is') ∙ ap (λ rs. cell_column rs n) rows_are

  pub edge_of_row : (i : ℕ) (e : Edge) → i < length t.rows → e.sync ≡ get_or b.sync.items i 0 → e.other ≡ get_or b.other.items i 0 → e.cells ≡ cells_at b.payload.items i → slice_get (map edge_of t.rows) i ≡ Some e
  edge_of_row i e lt sync other cells =
      let r : Row = row_at (columns_of b) 0 in
      let row : get_or t.rows i r ≡ row_at (columns_of b) i = ap (λ rs. get_or rs i r) (sym rows_are) ∙ get_or-rows_of (columns_of b) i r (sync_place i lt) in
      let edge : edge_of (row_at (columns_of b) i) ≡ e = (λ j. record { sync = sym sync j; other = sym other j; cells = sym cells j }) in
      slice_get-get_or (map edge_of t.rows) i (edge_of r) (omega (arith, lt, length-map t.rows edge_of)) ∙ ap Some (get_or-map edge_of t.rows i r (edge_of r) lt ∙ ap edge_of row ∙ edge)

  pub count_of_rows : count_by (λ x. x) b.occupied.items ≡ length (occupied_rows t.rows)
  count_of_rows = ap (count_by (λ x. x)) (sym bits_of_rows) ∙ count_by-map (λ r. r.occupied) t.rows ∙ sym (length-filter (λ r. r.occupied) t.rows)

  -- a batch whose columns are cleared
  module _ (n : Inside)
      (sync : n.sync ≡ record b.sync { items = [] }) (other : n.other ≡ record b.other { items = [] })
      (key : n.key ≡ record b.key { items = [] }) (hash : n.hash ≡ record b.hash { items = [] })
      (payload : n.payload.items ≡ map payload_clear b.payload.items) (occupied : n.occupied ≡ record b.occupied { items = [] }) where
    none_are : columns_of n ≡ record { sync = []; other = []; key = []; hash = []; payload = map payload_clear b.payload.items; occupied = [] }
    none_are = λ i. record { sync = (sync i).items; other = (other i).items; key = (key i).items; hash = (hash i).items; payload = payload i; occupied = (occupied i).items }

    still_room : n.sync.capacity ≡ b.sync.capacity
    still_room = ap (λ x. x.capacity) sync

    pub Holds-clear : Holds n
    Holds-clear = record {
      columns = subst (λ c. AreColumns n.sync.capacity c) (sym none_are)
          (subst (λ m. AreColumns m (record { sync = []; other = []; key = []; hash = []; payload = map payload_clear b.payload.items; occupied = [] })) (sym still_room) (record {
            other = refl;
            key = refl;
            hash = refl;
            occupied = refl;
            payload = columns-cleared (length b.sync.items) b.sync.capacity b.payload.items holds.columns.payload;
            sync_times = All-nil (λ x. x ≤ inf);
            other_times = All-nil (λ x. x ≤ inf);
          }));
      other_room = ap (λ x. x.capacity) other ∙ holds.other_room ∙ sym still_room;
      key_room = ap (λ x. x.capacity) key ∙ holds.key_room ∙ sym still_room;
      hash_room = ap (λ x. x.capacity) hash ∙ holds.hash_room ∙ sym still_room;
      occupied_room = ap (λ x. x.capacity) occupied ∙ holds.occupied_room ∙ sym still_room;
    }

    pub view-clear : the_view n ≡ record t { rows = [] }
    view-clear = table_is _ _ _ (record t { rows = [] }) (ap rows_of none_are) (still_room ∙ capacity_is) (ap (map payload_kind) payload ∙ kinds-cleared b.payload.items ∙ kinds_are)

  -- the bit of a row is that of its place
  pub row_bit : (i : ℕ) (d : Row) → i < length t.rows → (get_or t.rows i d).occupied ≡ get_or b.occupied.items i false
  row_bit i d lt = sym (get_or-map (λ r. r.occupied) t.rows i d false lt) ∙ ap (λ xs. get_or xs i false) bits_of_rows

  -- the row that stands at a place of the columns
  pub read_row : (i : ℕ) (r : Row) (s o k h : ℕ) (m : Bool) → i < length t.rows → slice_get t.rows i ≡ Some r →
      slice_get b.sync.items i ≡ Some s → slice_get b.other.items i ≡ Some o → slice_get b.key.items i ≡ Some k → slice_get b.hash.items i ≡ Some h → m ≡ get_or b.occupied.items i false →
      record { sync = s; other = o; key = k; hash = h; cells = cells_at b.payload.items i; occupied = m } ≡ r
  read_row i r s o k h m lt found sync other key hash occupied =
      let here : row_at (columns_of b) i ≡ r = sym (get_or-rows_of (columns_of b) i r (sync_place i lt)) ∙ ap (λ rs. get_or rs i r) rows_are ∙ get_or_from_slice_get t.rows i r r found in
      let s' = get_or_from_slice_get b.sync.items i s 0 sync in
      let o' = get_or_from_slice_get b.other.items i o 0 other in
      let k' = get_or_from_slice_get b.key.items i k 0 key in
      let h' = get_or_from_slice_get b.hash.items i h 0 hash in
      let read : record { sync = s; other = o; key = k; hash = h; cells = cells_at b.payload.items i; occupied = m } ≡ row_at (columns_of b) i =
      (λ j. record { sync = sym s' j; other = sym o' j; key = sym k' j; hash = sym h' j; cells = cells_at b.payload.items i; occupied = occupied j }) in
      read ∙ here

  -- what is read from the columns of times is a time
  pub sync_time : (i s : ℕ) → i < length t.rows → slice_get b.sync.items i ≡ Some s → s ≤ inf
  sync_time i s lt read = subst (λ n. n ≤ inf) (get_or_from_slice_get b.sync.items i s 0 read) (holds.columns.sync_times i 0 (sync_place i lt))

  pub other_time : (i o : ℕ) → i < length t.rows → slice_get b.other.items i ≡ Some o → o ≤ inf
  other_time i o lt read = subst (λ n. n ≤ inf) (get_or_from_slice_get b.other.items i o 0 read) (holds.columns.other_times i 0 (other_place i lt))

  pub reaches_item : (i n : ℕ) (p : Payload) (xs : List Payload) → i < length t.rows → xs ≡ b.payload.items → n < length xs → p ≡ get_or xs n p → i < length (payload_data p)
  reaches_item i n p xs lt same within is' =
      let reached : All (Reaches i) xs = subst (All (Reaches i)) (sym same) (payload_place i lt) in
      subst (Reaches i) (sym is') (reached n p within)
