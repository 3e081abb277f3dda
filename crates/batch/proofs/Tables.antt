-- The rows of columns, after a change of the columns.
use Rattle.std.proofs.Common.{◌≡◌, ℕ, zero, suc, ◌+◌, ◌-◌, ◌<◌, ◌≤◌, ◌≢◌, ◌&&◌, pos, Bool, true, false, List, [], ◌∷◌, ◌++◌, map, length, get_or, set, cond, drop, add-one, ◌⊎◌, inl, inr, refl, ap, sym, ◌∙◌, subst, arith}
use Rattle.std.specs.Prelude.{All, Some, slice_get}
use Rattle.std.specs.List.{range_with_len}
use Rattle.std.proofs.lemmas.List.{get_or_append_left, get_or-append_right, get_or-set_same, get_or-set_other, length-append, append-nil, append_assoc, length-set, length-map, get_or-map, ext_get_or}
use Rattle.std.proofs.lemmas.Option.{get_or_from_slice_get}
use Rattle.std.proofs.lemmas.Bool.{cases_eq}
use Rattle.occupancy.specs.Bits.{both}
use Rattle.occupancy.proofs.Both.{is_set_at-both}
use Rattle.std.proofs.lemmas.List.FromFn.{length-map-range_with_len, get_or-map-range_with_len, map-range_with_len_more, fill_by_all}
use Rattle.std.proofs.lemmas.List.Elements.{All-push, All-set}
use Rattle.tw_rows.specs.Instant.{inf}
use Rattle.tw_rows.specs.Cells.{datum_kind}
use Rattle.tw_rows.specs.declared.cells.Datum.TheVariants.{Int}
use Rattle.batch.specs.declared.payload.Payload.{Payload}
use Rattle.batch.specs.Rows.{Row, kept, cell_column, occupied_rows}
use Rattle.batch.specs.Payloads.{payload_kind, payload_data, pushed, cells_at}
use Rattle.batch.specs.Columns.{Columns, row_at, rows_of, IsColumn, AreColumns, with_cells}
use Rattle.batch.proofs.Pushing.{columns-pushed, cells_at-pushed_before, cells_at-pushed_here}

pub length-rows_of : (c : Columns) → length (rows_of c) ≡ length c.sync
length-rows_of c = length-map-range_with_len (row_at c) 0 (length c.sync)

pub get_or-rows_of : (c : Columns) (i : ℕ) (d : Row) → i < length c.sync → get_or (rows_of c) i d ≡ row_at c i
get_or-rows_of c i d lt = get_or-map-range_with_len (row_at c) 0 (length c.sync) i i d lt (omega arith)

-- a list with as many rows, and the row of the columns at each place, is their list of rows
pub rows_of-is : (rows : List Row) (c : Columns) (d : Row) → length rows ≡ length c.sync → ((i : ℕ) → i < length c.sync → get_or rows i d ≡ row_at c i) → rows ≡ rows_of c
rows_of-is rows c d e h = fill_by_all (row_at c) rows (length c.sync) d e h

-- the columns with one row more
abbrev pub with_row : Columns → Row → Columns
with_row c r = record {
  sync = c.sync ++ r.sync ∷ [];
  other = c.other ++ r.other ∷ [];
  key = c.key ++ r.key ∷ [];
  hash = c.hash ++ r.hash ∷ [];
  payload = pushed c.payload r.cells;
  occupied = c.occupied ++ r.occupied ∷ [];
}

last_item : {X : Type 0} (xs : List X) (x d : X) (n : ℕ) → length xs ≡ n → get_or (xs ++ x ∷ []) n d ≡ x
last_item xs x d n e =
    let none : n - n ≡ 0 = omega arith in
    get_or-append_right xs (x ∷ []) n n d e (omega arith) ∙ ap (λ k. get_or (x ∷ []) k d) none

module _ (capacity : ℕ) (c : Columns) (r : Row) (whole : AreColumns capacity c) (kinds : map datum_kind r.cells ≡ map payload_kind c.payload) where
  before : (i : ℕ) → i < length c.sync → row_at c i ≡ row_at (with_row c r) i
  before i lt =
      let sync_same = get_or_append_left c.sync (r.sync ∷ []) 0 i lt in
      let other_same = get_or_append_left c.other (r.other ∷ []) 0 i (omega (arith, lt, whole.other)) in
      let key_same = get_or_append_left c.key (r.key ∷ []) 0 i (omega (arith, lt, whole.key)) in
      let hash_same = get_or_append_left c.hash (r.hash ∷ []) 0 i (omega (arith, lt, whole.hash)) in
      let occupied_same = get_or_append_left c.occupied (r.occupied ∷ []) false i (omega (arith, lt, whole.occupied)) in
      let cells_same = cells_at-pushed_before (length c.sync) capacity c.payload r.cells i kinds whole.payload lt in
      rw (sync_same, other_same, key_same, hash_same, occupied_same, cells_same) refl

  here : row_at (with_row c r) (length c.sync) ≡ r
  here =
      let sync_same = last_item c.sync r.sync 0 (length c.sync) refl in
      let other_same = last_item c.other r.other 0 (length c.sync) whole.other in
      let key_same = last_item c.key r.key 0 (length c.sync) whole.key in
      let hash_same = last_item c.hash r.hash 0 (length c.sync) whole.hash in
      let occupied_same = last_item c.occupied r.occupied false (length c.sync) whole.occupied in
      let cells_same = cells_at-pushed_here (length c.sync) capacity c.payload r.cells kinds whole.payload in
      rw (sync_same, other_same, key_same, hash_same, occupied_same, cells_same) refl

  -- columns that got a row have it last
  pub rows_of-push : rows_of (with_row c r) ≡ rows_of c ++ r ∷ []
  rows_of-push =
      let one_more : length (with_row c r).sync ≡ length c.sync + 1 = length-append c.sync (r.sync ∷ []) in
      let split = map-range_with_len_more (row_at (with_row c r)) 0 (length c.sync) (length c.sync) (omega arith) in
      let front : rows_of c ≡ map (row_at (with_row c r)) (range_with_len 0 (length c.sync)) =
      fill_by_all (row_at (with_row c r)) (rows_of c) (length c.sync) r (length-rows_of c) (λ i lt. get_or-rows_of c i r lt ∙ before i lt) in
      ap (λ n. map (row_at (with_row c r)) (range_with_len 0 n)) one_more ∙ split ∙ ap (λ xs. xs ++ row_at (with_row c r) (length c.sync) ∷ []) (sym front) ∙ ap (λ x. rows_of c ++ x ∷ []) here

  pub AreColumns-push : r.sync ≤ inf → r.other ≤ inf → AreColumns capacity (with_row c r)
  AreColumns-push sync_time other_time =
      let one_more : length (c.sync ++ r.sync ∷ []) ≡ length c.sync + 1 = length-append c.sync (r.sync ∷ []) in
      record {
        other = grind (arith, length-append c.other (r.other ∷ []), one_more, whole.other);
        key = grind (arith, length-append c.key (r.key ∷ []), one_more, whole.key);
        hash = grind (arith, length-append c.hash (r.hash ∷ []), one_more, whole.hash);
        occupied = grind (arith, length-append c.occupied (r.occupied ∷ []), one_more, whole.occupied);
        payload = subst (λ n. All (IsColumn n capacity) (pushed c.payload r.cells)) (sym one_more) (columns-pushed (length c.sync) capacity c.payload r.cells kinds whole.payload);
        sync_times = All-push (λ x. x ≤ inf) c.sync r.sync whole.sync_times sync_time;
        other_times = All-push (λ x. x ≤ inf) c.other r.other whole.other_times other_time;
      }

-- ---- reading the rows

-- whether the rows are occupied is the column of bits
pub occupied-rows_of : (capacity : ℕ) (c : Columns) → AreColumns capacity c → map (λ r. r.occupied) (rows_of c) ≡ c.occupied
occupied-rows_of capacity c whole =
    let e : length (map (λ r. r.occupied) (rows_of c)) ≡ length c.sync = length-map (rows_of c) (λ r. r.occupied) ∙ length-rows_of c in
    ext_get_or false (map (λ r. r.occupied) (rows_of c)) c.occupied (e ∙ sym whole.occupied)
    (λ i lt.
    let within : i < length c.sync = omega (arith, lt, e) in
    get_or-map (λ r. r.occupied) (rows_of c) i (row_at c 0) false (omega (arith, within, length-rows_of c)) ∙ ap (λ r. r.occupied) (get_or-rows_of c i (row_at c 0) within))

pub syncs-rows_of : (c : Columns) → map (λ r. r.sync) (rows_of c) ≡ c.sync
syncs-rows_of c =
    let e : length (map (λ r. r.sync) (rows_of c)) ≡ length c.sync = length-map (rows_of c) (λ r. r.sync) ∙ length-rows_of c in
    ext_get_or 0 (map (λ r. r.sync) (rows_of c)) c.sync e
    (λ i lt.
    let within : i < length c.sync = omega (arith, lt, e) in
    get_or-map (λ r. r.sync) (rows_of c) i (row_at c 0) 0 (omega (arith, within, length-rows_of c)) ∙ ap (λ r. r.sync) (get_or-rows_of c i (row_at c 0) within))

pub hashes-rows_of : (capacity : ℕ) (c : Columns) → AreColumns capacity c → map (λ r. r.hash) (rows_of c) ≡ c.hash
hashes-rows_of capacity c whole =
    let e : length (map (λ r. r.hash) (rows_of c)) ≡ length c.sync = length-map (rows_of c) (λ r. r.hash) ∙ length-rows_of c in
    ext_get_or 0 (map (λ r. r.hash) (rows_of c)) c.hash (e ∙ sym whole.hash)
    (λ i lt.
    let within : i < length c.sync = omega (arith, lt, e) in
    get_or-map (λ r. r.hash) (rows_of c) i (row_at c 0) 0 (omega (arith, within, length-rows_of c)) ∙ ap (λ r. r.hash) (get_or-rows_of c i (row_at c 0) within))

pub others-rows_of : (capacity : ℕ) (c : Columns) → AreColumns capacity c → map (λ r. r.other) (rows_of c) ≡ c.other
others-rows_of capacity c whole =
    let e : length (map (λ r. r.other) (rows_of c)) ≡ length c.sync = length-map (rows_of c) (λ r. r.other) ∙ length-rows_of c in
    ext_get_or 0 (map (λ r. r.other) (rows_of c)) c.other (e ∙ sym whole.other)
    (λ i lt.
    let within : i < length c.sync = omega (arith, lt, e) in
    get_or-map (λ r. r.other) (rows_of c) i (row_at c 0) 0 (omega (arith, within, length-rows_of c)) ∙ ap (λ r. r.other) (get_or-rows_of c i (row_at c 0) within))

-- the cells of a column are its data
pub cell_column-rows_of : (capacity : ℕ) (c : Columns) (n : ℕ) (p : Payload) → AreColumns capacity c → n < length c.payload → p ≡ get_or c.payload n p → cell_column (rows_of c) n ≡ payload_data p
cell_column-rows_of capacity c n p whole lt is =
    let column : IsColumn (length c.sync) capacity (get_or c.payload n p) = whole.payload n p lt in
    let long : length (payload_data p) ≡ length c.sync = ap (λ q. length (payload_data q)) is ∙ column.cells in
    let e : length (cell_column (rows_of c) n) ≡ length c.sync = length-map (rows_of c) (λ r. get_or r.cells n (Int (pos 0))) ∙ length-rows_of c in
    ext_get_or (Int (pos 0)) (cell_column (rows_of c) n) (payload_data p) (e ∙ sym long)
    (λ i within'.
    let within : i < length c.sync = omega (arith, within', e) in
    get_or-map (λ r. get_or r.cells n (Int (pos 0))) (rows_of c) i (row_at c 0) (Int (pos 0)) (omega (arith, within, length-rows_of c))
    ∙ ap (λ r. get_or r.cells n (Int (pos 0))) (get_or-rows_of c i (row_at c 0) within)
    ∙ get_or-map (λ q. get_or (payload_data q) i (Int (pos 0))) c.payload n p (Int (pos 0)) lt
    ∙ ap (λ q. get_or (payload_data q) i (Int (pos 0))) (sym is))

-- ---- changes of the rows

pub length-kept : (rows : List Row) (bits : List Bool) → length bits ≡ length rows → length (kept rows bits) ≡ length rows
length-kept [] bits e = refl
length-kept (r ∷ rs) [] e = absurd (omega arith)
length-kept (r ∷ rs) (b ∷ bs) e = ap suc (length-kept rs bs (omega arith))

pub get_or-kept : (rows : List Row) (bits : List Bool) (i : ℕ) (d : Row) → i < length rows → length bits ≡ length rows →
    get_or (kept rows bits) i d ≡ record (get_or rows i d) { occupied = (get_or rows i d).occupied && get_or bits i false }
get_or-kept [] bits i d lt e = absurd (omega arith)
get_or-kept (r ∷ rs) [] i d lt e = absurd (omega arith)
get_or-kept (r ∷ rs) (b ∷ bs) zero d lt e = refl
get_or-kept (r ∷ rs) (b ∷ bs) (suc i) d lt e = get_or-kept rs bs i d (omega arith) (omega arith)

-- the rows that are left where the bits are taken together with a mask
pub rows_of-keep : (capacity : ℕ) (c : Columns) (mask : List Bool) → AreColumns capacity c → length mask ≡ length c.sync → rows_of (record c { occupied = both c.occupied mask }) ≡ kept (rows_of c) mask
rows_of-keep capacity c mask whole e =
    sym (rows_of-is (kept (rows_of c) mask) (record c { occupied = both c.occupied mask }) (row_at c 0) (length-kept (rows_of c) mask (e ∙ sym (length-rows_of c)) ∙ length-rows_of c)
    (λ i lt.
    get_or-kept (rows_of c) mask i (row_at c 0) (omega (arith, lt, length-rows_of c)) (e ∙ sym (length-rows_of c))
    ∙ (let masked : Row → Row = (λ r. record r { occupied = r.occupied && get_or mask i false }) in ap masked (get_or-rows_of c i (row_at c 0) lt))
    ∙ (let occupied_as : Bool → Row = (λ b. record (row_at c i) { occupied = b }) in ap occupied_as (sym (is_set_at-both c.occupied mask i)))))

-- the rows once a key and a hash are written
pub rows_of-mark : (capacity : ℕ) (c : Columns) (i key hash : ℕ) (r : Row) → AreColumns capacity c → i < length c.sync → slice_get (rows_of c) i ≡ Some r →
    rows_of (record c { key = set c.key i key; hash = set c.hash i hash }) ≡ set (rows_of c) i (record r { key = key; hash = hash })
rows_of-mark capacity c i key hash r whole lt found =
    let here : row_at c i ≡ r = sym (get_or-rows_of c i r lt) ∙ get_or_from_slice_get (rows_of c) i r r found in
    sym (rows_of-is (set (rows_of c) i (record r { key = key; hash = hash })) (record c { key = set c.key i key; hash = set c.hash i hash }) r (length-set (rows_of c) i _ ∙ length-rows_of c)
    (λ j within. at j within here (cases_eq j i)))
  where
    at : (j : ℕ) → j < length c.sync → row_at c i ≡ r → (j ≡ i) ⊎ (j ≢ i) →
        get_or (set (rows_of c) i (record r { key = key; hash = hash })) j r ≡ row_at (record c { key = set c.key i key; hash = set c.hash i hash }) j
    at j within here (inl same) =
        let key_here : get_or (set c.key i key) i 0 ≡ key = get_or-set_same c.key i key 0 (omega (arith, lt, whole.key)) in
        let hash_here : get_or (set c.hash i hash) i 0 ≡ hash = get_or-set_same c.hash i hash 0 (omega (arith, lt, whole.hash)) in
        let row_here : get_or (set (rows_of c) i (record r { key = key; hash = hash })) i r ≡ record r { key = key; hash = hash } = get_or-set_same (rows_of c) i (record r { key = key; hash = hash }) r (omega (arith, lt, length-rows_of c)) in
        rw (same, row_here, key_here, hash_here, ← here) refl
    at j within here (inr apart) =
        rw (get_or-set_other c.key i j key 0 apart, get_or-set_other c.hash i j hash 0 apart, get_or-set_other (rows_of c) i j (record r { key = key; hash = hash }) r apart)
        (get_or-rows_of c j r within)

-- the rows once one is cleared
pub rows_of-clear : (capacity : ℕ) (c : Columns) (i : ℕ) (r : Row) → AreColumns capacity c → i < length c.sync → slice_get (rows_of c) i ≡ Some r →
    rows_of (record c { occupied = set c.occupied i false }) ≡ set (rows_of c) i (record r { occupied = false })
rows_of-clear capacity c i r whole lt found =
    let here : row_at c i ≡ r = sym (get_or-rows_of c i r lt) ∙ get_or_from_slice_get (rows_of c) i r r found in
    sym (rows_of-is (set (rows_of c) i (record r { occupied = false })) (record c { occupied = set c.occupied i false }) r (length-set (rows_of c) i _ ∙ length-rows_of c)
    (λ j within. at j within here (cases_eq j i)))
  where
    at : (j : ℕ) → j < length c.sync → row_at c i ≡ r → (j ≡ i) ⊎ (j ≢ i) →
        get_or (set (rows_of c) i (record r { occupied = false })) j r ≡ row_at (record c { occupied = set c.occupied i false }) j
    at j within here (inl same) =
        let bit_here : get_or (set c.occupied i false) i false ≡ false = get_or-set_same c.occupied i false false (omega (arith, lt, whole.occupied)) in
        let row_here : get_or (set (rows_of c) i (record r { occupied = false })) i r ≡ record r { occupied = false } = get_or-set_same (rows_of c) i (record r { occupied = false }) r (omega (arith, lt, length-rows_of c)) in
        rw (same, row_here, bit_here, ← here) refl
    at j within here (inr apart) =
        rw (get_or-set_other c.occupied i j false false apart, get_or-set_other (rows_of c) i j (record r { occupied = false }) r apart)
        (get_or-rows_of c j r within)

-- the rows once the times of one are written
pub rows_of-times : (capacity : ℕ) (c : Columns) (i sync other : ℕ) (r : Row) → AreColumns capacity c → i < length c.sync → slice_get (rows_of c) i ≡ Some r →
    rows_of (record c { sync = set c.sync i sync; other = set c.other i other }) ≡ set (rows_of c) i (record r { sync = sync; other = other })
rows_of-times capacity c i sync other r whole lt found =
    let here : row_at c i ≡ r = sym (get_or-rows_of c i r lt) ∙ get_or_from_slice_get (rows_of c) i r r found in
    sym (rows_of-is (set (rows_of c) i (record r { sync = sync; other = other })) (record c { sync = set c.sync i sync; other = set c.other i other }) r
    (length-set (rows_of c) i _ ∙ length-rows_of c ∙ sym (length-set c.sync i sync))
    (λ j within. at j (omega (arith, within, length-set c.sync i sync)) here (cases_eq j i)))
  where
    at : (j : ℕ) → j < length c.sync → row_at c i ≡ r → (j ≡ i) ⊎ (j ≢ i) →
        get_or (set (rows_of c) i (record r { sync = sync; other = other })) j r ≡ row_at (record c { sync = set c.sync i sync; other = set c.other i other }) j
    at j within here (inl same) =
        let sync_here : get_or (set c.sync i sync) i 0 ≡ sync = get_or-set_same c.sync i sync 0 lt in
        let other_here : get_or (set c.other i other) i 0 ≡ other = get_or-set_same c.other i other 0 (omega (arith, lt, whole.other)) in
        let row_here : get_or (set (rows_of c) i (record r { sync = sync; other = other })) i r ≡ record r { sync = sync; other = other } = get_or-set_same (rows_of c) i (record r { sync = sync; other = other }) r (omega (arith, lt, length-rows_of c)) in
        rw (same, row_here, sync_here, other_here, ← here) refl
    at j within here (inr apart) =
        rw (get_or-set_other c.sync i j sync 0 apart, get_or-set_other c.other i j other 0 apart, get_or-set_other (rows_of c) i j (record r { sync = sync; other = other }) r apart)
        (get_or-rows_of c j r within)

-- with other times the columns are still those of a batch
pub AreColumns-times : (capacity : ℕ) (c : Columns) (i sync other : ℕ) → AreColumns capacity c → sync ≤ inf → other ≤ inf →
    AreColumns capacity (record c { sync = set c.sync i sync; other = set c.other i other })
AreColumns-times capacity c i sync other whole sync_time other_time =
    let long = length-set c.sync i sync in
    record {
      other = length-set c.other i other ∙ whole.other ∙ sym long;
      key = whole.key ∙ sym long;
      hash = whole.hash ∙ sym long;
      occupied = whole.occupied ∙ sym long;
      payload = subst (λ n. All (IsColumn n capacity) c.payload) (sym long) whole.payload;
      sync_times = All-set (λ x. x ≤ inf) c.sync i sync sync_time whole.sync_times;
      other_times = All-set (λ x. x ≤ inf) c.other i other other_time whole.other_times;
    }

length-with_cells : (ps : List Payload) (n : ℕ) (rows : List Row) → length (with_cells ps n rows) ≡ length rows
length-with_cells ps n [] = refl
length-with_cells ps n (r ∷ rs) = ap suc (length-with_cells ps (suc n) rs)

get_or-with_cells : (ps : List Payload) (n i : ℕ) (rows : List Row) (d : Row) → i < length rows → get_or (with_cells ps n rows) i d ≡ record (get_or rows i d) { cells = cells_at ps (n + i) }
get_or-with_cells ps n i [] d lt = absurd (omega arith)
get_or-with_cells ps n zero (r ∷ rs) d lt =
    let e : n + 0 ≡ n = omega arith in
    rw e refl
get_or-with_cells ps n (suc i) (r ∷ rs) d lt =
    let e : n + suc i ≡ suc n + i = omega arith in
    rw e (get_or-with_cells ps (suc n) i rs d (omega arith))

-- the rows with other payload columns
pub rows_of-exchange : (c : Columns) (ps : List Payload) → rows_of (record c { payload = ps }) ≡ with_cells ps 0 (rows_of c)
rows_of-exchange c ps =
    sym (rows_of-is (with_cells ps 0 (rows_of c)) (record c { payload = ps }) (row_at c 0) (length-with_cells ps 0 (rows_of c) ∙ length-rows_of c) at)
  where
    at : (i : ℕ) → i < length c.sync → get_or (with_cells ps 0 (rows_of c)) i (row_at c 0) ≡ row_at (record c { payload = ps }) i
    at i lt =
        let none : 0 + i ≡ i = omega arith in
        let with_those : Row → Row = (λ r. record r { cells = cells_at ps i }) in
        let cells_from : ℕ → Row = (λ k. record (get_or (rows_of c) i (row_at c 0)) { cells = cells_at ps k }) in
        let there = get_or-with_cells ps 0 i (rows_of c) (row_at c 0) (omega (arith, lt, length-rows_of c)) in
        there ∙ ap cells_from none ∙ ap with_those (get_or-rows_of c i (row_at c 0) lt)

-- ---- the occupied rows from a place on

rest : (rows : List Row) (i : ℕ) (d : Row) → i < length rows → occupied_rows (drop i rows) ≡ cond (get_or rows i d).occupied (get_or rows i d ∷ occupied_rows (drop (suc i) rows)) (occupied_rows (drop (suc i) rows))
rest [] i d lt = absurd (omega arith)
rest (r ∷ rs) zero d lt = refl
rest (r ∷ rs) (suc i) d lt = rest rs i d (omega arith)

module _ (rows : List Row) (i : ℕ) (d : Row) (lt : i < length rows) (so_far total : List Row) (told : so_far ++ occupied_rows (drop i rows) ≡ total) where
  at_set : (get_or rows i d).occupied ≡ true → so_far ++ get_or rows i d ∷ occupied_rows (drop (suc i) rows) ≡ total
  at_set set = ap (λ b. so_far ++ cond b (get_or rows i d ∷ occupied_rows (drop (suc i) rows)) (occupied_rows (drop (suc i) rows))) (sym set) ∙ ap (λ xs. so_far ++ xs) (sym (rest rows i d lt)) ∙ told

  -- an occupied row goes over
  pub told_set : (now : List Row) → (get_or rows i d).occupied ≡ true → now ≡ so_far ++ get_or rows i d ∷ [] → now ++ occupied_rows (drop (i + 1) rows) ≡ total
  told_set now set added =
      rw (add-one, added) (append_assoc so_far (get_or rows i d ∷ []) (occupied_rows (drop (suc i) rows)) ∙ at_set set)

  -- a row that is not occupied stays behind
  pub told_clear : (get_or rows i d).occupied ≡ false → so_far ++ occupied_rows (drop (i + 1) rows) ≡ total
  told_clear clear = rw add-one (ap (λ b. so_far ++ cond b (get_or rows i d ∷ occupied_rows (drop (suc i) rows)) (occupied_rows (drop (suc i) rows))) (sym clear) ∙ ap (λ xs. so_far ++ xs) (sym (rest rows i d lt)) ∙ told)

  -- there is room for an occupied row where there is room for all
  pub told_room : (capacity : ℕ) → (get_or rows i d).occupied ≡ true → length total ≤ capacity → length so_far < capacity
  told_room capacity set fits =
      let long = length-append so_far (get_or rows i d ∷ occupied_rows (drop (suc i) rows)) in
      let same = ap length (at_set set) in
      omega (arith, long, same, fits)

-- at the end no row is left
pub told_all : (rows so_far total : List Row) (i : ℕ) → length rows ≤ i → so_far ++ occupied_rows (drop i rows) ≡ total → so_far ≡ total
told_all rows so_far total i past told = sym (append-nil so_far) ∙ ap (λ xs. so_far ++ xs) (sym (none rows i past)) ∙ told
  where
    none : (xs : List Row) (k : ℕ) → length xs ≤ k → occupied_rows (drop k xs) ≡ []
    none [] zero h = refl
    none [] (suc k) h = refl
    none (x ∷ xs) zero h = absurd (omega arith)
    none (x ∷ xs) (suc k) h = none xs k (omega arith)
