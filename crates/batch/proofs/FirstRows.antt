-- The rows of columns that lost their first cells, or got those of other ones.
use Rattle.std.proofs.Common.{◌≡◌, ◌+◌, ◌-◌, ◌<◌, ◌≤◌, ℕ, suc, pos, Bool, true, false, replicate, List, [], ◌∷◌, ◌++◌, map, length, take, drop, get_or, ◌⊎◌, inl, inr, refl, ap, sym, ◌∙◌, subst, arith}
use Rattle.std.specs.Prelude.{All, count_by, filter}
use Rattle.std.proofs.lemmas.List.{map-append, drop-map, take-map, length-append, length-drop, length-take-le, get_or-drop, get_or-take, get_or_append_left, get_or-append_right}
use Rattle.std.proofs.lemmas.List.Elements.{All-head, All-tail, All-cons, All-nil, All-append, All-drop, All-take}
use Rattle.std.proofs.lemmas.List.Sums.{length-filter, count_by-le-length}
use Rattle.std.proofs.lemmas.Bool.{cases_lt}
use Rattle.tw_rows.specs.Instant.{inf}
use Rattle.tw_rows.specs.declared.cells.Datum.TheVariants.{Int, Bool as Flag, Text}
use Rattle.tw_rows.specs.declared.kind.CellKind.TheVariants.{Whole, Bit, Place}
use Rattle.batch.specs.declared.payload.Payload.{Payload}
use Rattle.batch.specs.declared.payload.Payload.TheVariants.{Ints, Bits, Places}
use Rattle.batch.specs.Payloads.{payload_kind, payload_data, payload_capacity, payload_cut, payload_extend, extended, cells_at}
use Rattle.batch.specs.Columns.{Columns, row_at, rows_of, IsColumn, AreColumns}
use Rattle.batch.proofs.Tables.{length-rows_of, get_or-rows_of, rows_of-is}

pub payload_data-cut : (k : ℕ) (p : Payload) → payload_data (payload_cut k p) ≡ drop k (payload_data p)
payload_data-cut k (Ints c) = sym (drop-map Int k c.items)
payload_data-cut k (Bits c) = sym (drop-map Flag k c.items)
payload_data-cut k (Places c) = sym (drop-map Text k c.items)

pub kinds-cut : (k : ℕ) (ps : List Payload) → map payload_kind (map (payload_cut k) ps) ≡ map payload_kind ps
kinds-cut k [] = refl
kinds-cut k (Ints c ∷ ps) = ap (λ ks. Whole ∷ ks) (kinds-cut k ps)
kinds-cut k (Bits c ∷ ps) = ap (λ ks. Bit ∷ ks) (kinds-cut k ps)
kinds-cut k (Places c ∷ ps) = ap (λ ks. Place ∷ ks) (kinds-cut k ps)

cells_at-cut : (k i : ℕ) (ps : List Payload) → cells_at (map (payload_cut k) ps) i ≡ cells_at ps (k + i)
cells_at-cut k i [] = refl
cells_at-cut k i (p ∷ ps) =
    let here : get_or (payload_data (payload_cut k p)) i (Int (pos 0)) ≡ get_or (payload_data p) (k + i) (Int (pos 0)) =
    ap (λ ds. get_or ds i (Int (pos 0))) (payload_data-cut k p) ∙ get_or-drop k (payload_data p) i (Int (pos 0)) in
    rw here (ap (λ cs. get_or (payload_data p) (k + i) (Int (pos 0)) ∷ cs) (cells_at-cut k i ps))

columns-cut : (k count capacity : ℕ) (ps : List Payload) → All (IsColumn count capacity) ps → All (IsColumn (count - k) capacity) (map (payload_cut k) ps)
columns-cut k count capacity [] all = All-nil _
columns-cut k count capacity (p ∷ ps) all =
    All-cons (IsColumn (count - k) capacity) _ _ (one p (All-head (IsColumn count capacity) p ps all)) (columns-cut k count capacity ps (All-tail (IsColumn count capacity) p ps all))
  where
    one : (q : Payload) → IsColumn count capacity q → IsColumn (count - k) capacity (payload_cut k q)
    one q h = record {
      cells = ap length (payload_data-cut k q) ∙ length-drop k (payload_data q) ∙ ap (λ n. n - k) h.cells;
      room = kept q ∙ h.room;
    }
      where
        kept : (r : Payload) → payload_capacity (payload_cut k r) ≡ payload_capacity r
        kept (Ints c) = refl
        kept (Bits c) = refl
        kept (Places c) = refl

-- the columns without their first cells
abbrev pub cut_rows : ℕ → Columns → Columns
cut_rows k c = record {
  sync = drop k c.sync;
  other = drop k c.other;
  key = drop k c.key;
  hash = drop k c.hash;
  payload = map (payload_cut k) c.payload;
  occupied = drop k c.occupied;
}

-- they have the rows without the first ones
pub rows_of-cut : (k : ℕ) (c : Columns) → rows_of (cut_rows k c) ≡ drop k (rows_of c)
rows_of-cut k c = sym (rows_of-is (drop k (rows_of c)) (cut_rows k c) (row_at c 0) (length-drop k (rows_of c) ∙ ap (λ n. n - k) (length-rows_of c) ∙ sym (length-drop k c.sync)) at)
  where
    at : (i : ℕ) → i < length (drop k c.sync) → get_or (drop k (rows_of c)) i (row_at c 0) ≡ row_at (cut_rows k c) i
    at i lt =
        let within : k + i < length c.sync = omega (arith, lt, length-drop k c.sync) in
        let row = get_or-drop k (rows_of c) i (row_at c 0) ∙ get_or-rows_of c (k + i) (row_at c 0) within in
        rw (get_or-drop k c.sync i 0, get_or-drop k c.other i 0, get_or-drop k c.key i 0, get_or-drop k c.hash i 0, get_or-drop k c.occupied i false, cells_at-cut k i c.payload) row

-- and are still those of a batch
pub AreColumns-cut : (k capacity : ℕ) (c : Columns) → AreColumns capacity c → AreColumns capacity (cut_rows k c)
AreColumns-cut k capacity c whole =
    let long = length-drop k c.sync in
    record {
      other = length-drop k c.other ∙ ap (λ n. n - k) whole.other ∙ sym long;
      key = length-drop k c.key ∙ ap (λ n. n - k) whole.key ∙ sym long;
      hash = length-drop k c.hash ∙ ap (λ n. n - k) whole.hash ∙ sym long;
      occupied = length-drop k c.occupied ∙ ap (λ n. n - k) whole.occupied ∙ sym long;
      payload = subst (λ n. All (IsColumn n capacity) (map (payload_cut k) c.payload)) (sym long) (columns-cut k (length c.sync) capacity c.payload whole.payload);
      sync_times = All-drop (λ x. x ≤ inf) k c.sync whole.sync_times;
      other_times = All-drop (λ x. x ≤ inf) k c.other whole.other_times;
    }

-- bits of which as many are set as there are: all are
as_many_set : (bits : List Bool) → length (filter (λ b. b) bits) ≡ length bits → bits ≡ replicate (length bits) true
as_many_set [] e = refl
as_many_set (true ∷ bits) e =
    let f : suc (length (filter (λ b. b) bits)) ≡ suc (length bits) = e in
    ap (λ bs. true ∷ bs) (as_many_set bits (omega (arith, f)))
as_many_set (false ∷ bits) e =
    let f : length (filter (λ b. b) bits) ≡ suc (length bits) = e in
    let same = length-filter (λ (b : Bool). b) bits in
    let most = count_by-le-length (λ (b : Bool). b) bits in
    absurd (omega (arith, f, same, most))

pub all_set : (bits : List Bool) → count_by (λ b. b) bits ≡ length bits → bits ≡ replicate (length bits) true
all_set bits e = as_many_set bits (length-filter (λ b. b) bits ∙ e)

-- ---- the rows of columns that got the first cells of other ones

-- the items of the second list stand after those of the first
after : {X : Type 0} (xs ys : List X) (n i : ℕ) (d : X) → length xs ≡ n → get_or (xs ++ ys) (n + i) d ≡ get_or ys i d
after xs ys n i d e =
    let there : n + i - n ≡ i = omega arith in
    get_or-append_right xs ys n (n + i) d e (omega arith) ∙ ap (λ k. get_or ys k d) there

-- the other one is stored as the column is
payload_data-extend : (k : ℕ) (p f : Payload) → payload_kind f ≡ payload_kind p → payload_data (payload_extend k p f) ≡ payload_data p ++ take k (payload_data f)
payload_data-extend k (Ints c) (Ints f) h = map-append Int c.items (take k f.items) ∙ ap (λ xs. map Int c.items ++ xs) (sym (take-map Int k f.items))
payload_data-extend k (Ints c) (Bits f) h = absurd (cc)
payload_data-extend k (Ints c) (Places f) h = absurd (cc)
payload_data-extend k (Bits c) (Ints f) h = absurd (cc)
payload_data-extend k (Bits c) (Bits f) h = map-append Flag c.items (take k f.items) ∙ ap (λ xs. map Flag c.items ++ xs) (sym (take-map Flag k f.items))
payload_data-extend k (Bits c) (Places f) h = absurd (cc)
payload_data-extend k (Places c) (Ints f) h = absurd (cc)
payload_data-extend k (Places c) (Bits f) h = absurd (cc)
payload_data-extend k (Places c) (Places f) h = map-append Text c.items (take k f.items) ∙ ap (λ xs. map Text c.items ++ xs) (sym (take-map Text k f.items))

payload_kind-extend : (k : ℕ) (p f : Payload) → payload_kind (payload_extend k p f) ≡ payload_kind p
payload_kind-extend k (Ints c) (Ints f) = refl
payload_kind-extend k (Ints c) (Bits f) = refl
payload_kind-extend k (Ints c) (Places f) = refl
payload_kind-extend k (Bits c) (Ints f) = refl
payload_kind-extend k (Bits c) (Bits f) = refl
payload_kind-extend k (Bits c) (Places f) = refl
payload_kind-extend k (Places c) (Ints f) = refl
payload_kind-extend k (Places c) (Bits f) = refl
payload_kind-extend k (Places c) (Places f) = refl

payload_capacity-extend : (k : ℕ) (p f : Payload) → payload_capacity (payload_extend k p f) ≡ payload_capacity p
payload_capacity-extend k (Ints c) (Ints f) = refl
payload_capacity-extend k (Ints c) (Bits f) = refl
payload_capacity-extend k (Ints c) (Places f) = refl
payload_capacity-extend k (Bits c) (Ints f) = refl
payload_capacity-extend k (Bits c) (Bits f) = refl
payload_capacity-extend k (Bits c) (Places f) = refl
payload_capacity-extend k (Places c) (Ints f) = refl
payload_capacity-extend k (Places c) (Bits f) = refl
payload_capacity-extend k (Places c) (Places f) = refl

pub kinds-extended : (k : ℕ) (ps fs : List Payload) → map payload_kind (extended k ps fs) ≡ map payload_kind ps
kinds-extended k [] fs = refl
kinds-extended k (p ∷ ps) [] = refl
kinds-extended k (p ∷ ps) (f ∷ fs) = rw (payload_kind-extend k p f) (ap (λ ks. payload_kind p ∷ ks) (kinds-extended k ps fs))

-- columns of the same kinds, of which each one gets the first cells of its other one
module _ (k count capacity there room : ℕ) (fits : k ≤ there) where
  columns-extended : (ps fs : List Payload) → map payload_kind fs ≡ map payload_kind ps → All (IsColumn count capacity) ps → All (IsColumn there room) fs →
      All (IsColumn (count + k) capacity) (extended k ps fs)
  columns-extended [] fs h all more = All-nil _
  columns-extended (p ∷ ps) [] h all more = absurd (cc)
  columns-extended (p ∷ ps) (f ∷ fs) h all more =
      let first : IsColumn count capacity p = All-head (IsColumn count capacity) p ps all in
      let other : IsColumn there room f = All-head (IsColumn there room) f fs more in
      let same : payload_kind f ≡ payload_kind p = cc in
      let rest : map payload_kind fs ≡ map payload_kind ps = cc in
      let long = length-append (payload_data p) (take k (payload_data f)) in
      let taken = length-take-le k (payload_data f) (omega (arith, fits, other.cells)) in
      let longer = ap length (payload_data-extend k p f same) in
      All-cons (IsColumn (count + k) capacity) _ _ (record {
        cells = omega (arith, longer, long, taken, first.cells);
        room = payload_capacity-extend k p f ∙ first.room;
      }) (columns-extended ps fs rest (All-tail (IsColumn count capacity) p ps all) (All-tail (IsColumn there room) f fs more))

  -- at the places before, the cells are what they were
  cells_at-extended_before : (ps fs : List Payload) (i : ℕ) → map payload_kind fs ≡ map payload_kind ps → All (IsColumn count capacity) ps → i < count →
      cells_at (extended k ps fs) i ≡ cells_at ps i
  cells_at-extended_before [] fs i h all lt = refl
  cells_at-extended_before (p ∷ ps) [] i h all lt = refl
  cells_at-extended_before (p ∷ ps) (f ∷ fs) i h all lt =
      let first : IsColumn count capacity p = All-head (IsColumn count capacity) p ps all in
      let same : payload_kind f ≡ payload_kind p = cc in
      let rest : map payload_kind fs ≡ map payload_kind ps = cc in
      let within : i < length (payload_data p) = omega (arith, first.cells, lt) in
      let here : get_or (payload_data (payload_extend k p f)) i (Int (pos 0)) ≡ get_or (payload_data p) i (Int (pos 0)) =
      ap (λ xs. get_or xs i (Int (pos 0))) (payload_data-extend k p f same) ∙ get_or_append_left (payload_data p) (take k (payload_data f)) (Int (pos 0)) i within in
      rw here (ap (λ cs. get_or (payload_data p) i (Int (pos 0)) ∷ cs) (cells_at-extended_before ps fs i rest (All-tail (IsColumn count capacity) p ps all) lt))

  -- at the new places are those of the other ones
  cells_at-extended_after : (ps fs : List Payload) (i : ℕ) → map payload_kind fs ≡ map payload_kind ps → All (IsColumn count capacity) ps → i < k →
      cells_at (extended k ps fs) (count + i) ≡ cells_at fs i
  cells_at-extended_after [] [] i h all lt = refl
  cells_at-extended_after [] (f ∷ fs) i h all lt = absurd (cc)
  cells_at-extended_after (p ∷ ps) [] i h all lt = absurd (cc)
  cells_at-extended_after (p ∷ ps) (f ∷ fs) i h all lt =
      let first : IsColumn count capacity p = All-head (IsColumn count capacity) p ps all in
      let same : payload_kind f ≡ payload_kind p = cc in
      let rest : map payload_kind fs ≡ map payload_kind ps = cc in
      let here : get_or (payload_data (payload_extend k p f)) (count + i) (Int (pos 0)) ≡ get_or (payload_data f) i (Int (pos 0)) =
      ap (λ xs. get_or xs (count + i) (Int (pos 0))) (payload_data-extend k p f same) ∙ after (payload_data p) (take k (payload_data f)) count i (Int (pos 0)) first.cells ∙ get_or-take k (payload_data f) i (Int (pos 0)) lt in
      rw here (ap (λ cs. get_or (payload_data f) i (Int (pos 0)) ∷ cs) (cells_at-extended_after ps fs i rest (All-tail (IsColumn count capacity) p ps all) lt))

-- the columns with the first n rows of other ones last
abbrev pub with_first : ℕ → Columns → Columns → Columns
with_first k c d = record {
  sync = c.sync ++ take k d.sync;
  other = c.other ++ take k d.other;
  key = c.key ++ take k d.key;
  hash = c.hash ++ take k d.hash;
  payload = extended k c.payload d.payload;
  occupied = c.occupied ++ take k d.occupied;
}

module _ (k capacity room : ℕ) (c d : Columns) (whole : AreColumns capacity c) (others : AreColumns room d) (kinds : map payload_kind d.payload ≡ map payload_kind c.payload) (fits : k ≤ length d.sync) where
  before : (i : ℕ) → i < length c.sync → row_at c i ≡ row_at (with_first k c d) i
  before i lt =
      let sync_same = get_or_append_left c.sync (take k d.sync) 0 i lt in
      let other_same = get_or_append_left c.other (take k d.other) 0 i (omega (arith, lt, whole.other)) in
      let key_same = get_or_append_left c.key (take k d.key) 0 i (omega (arith, lt, whole.key)) in
      let hash_same = get_or_append_left c.hash (take k d.hash) 0 i (omega (arith, lt, whole.hash)) in
      let occupied_same = get_or_append_left c.occupied (take k d.occupied) false i (omega (arith, lt, whole.occupied)) in
      let cells_same = cells_at-extended_before k (length c.sync) capacity (length d.sync) room fits c.payload d.payload i kinds whole.payload lt in
      rw (sync_same, other_same, key_same, hash_same, occupied_same, cells_same) refl

  here_after : (i : ℕ) → i < k → row_at d i ≡ row_at (with_first k c d) (length c.sync + i)
  here_after i lt =
      let sync_same = after c.sync (take k d.sync) (length c.sync) i 0 refl ∙ get_or-take k d.sync i 0 lt in
      let other_same = after c.other (take k d.other) (length c.sync) i 0 whole.other ∙ get_or-take k d.other i 0 lt in
      let key_same = after c.key (take k d.key) (length c.sync) i 0 whole.key ∙ get_or-take k d.key i 0 lt in
      let hash_same = after c.hash (take k d.hash) (length c.sync) i 0 whole.hash ∙ get_or-take k d.hash i 0 lt in
      let occupied_same = after c.occupied (take k d.occupied) (length c.sync) i false whole.occupied ∙ get_or-take k d.occupied i false lt in
      let cells_same = cells_at-extended_after k (length c.sync) capacity (length d.sync) room fits c.payload d.payload i kinds whole.payload lt in
      rw (sync_same, other_same, key_same, hash_same, occupied_same, cells_same) refl

  more_rows : length (c.sync ++ take k d.sync) ≡ length c.sync + k
  more_rows = length-append c.sync (take k d.sync) ∙ ap (λ n. length c.sync + n) (length-take-le k d.sync fits)

  -- they have the rows of both
  pub rows_of-first : rows_of (with_first k c d) ≡ rows_of c ++ take k (rows_of d)
  rows_of-first =
      let long : length (rows_of c ++ take k (rows_of d)) ≡ length (c.sync ++ take k d.sync) =
      length-append (rows_of c) (take k (rows_of d)) ∙ omega (arith, length-rows_of c, length-rows_of d, length-take-le k (rows_of d) (omega (arith, fits, length-rows_of d)), more_rows) in
      sym (rows_of-is (rows_of c ++ take k (rows_of d)) (with_first k c d) (row_at c 0) long (λ i lt. at i (omega (arith, lt, more_rows)) (cases_lt i (length c.sync))))
    where
      at : (i : ℕ) → i < length c.sync + k → (i < length c.sync) ⊎ (length c.sync ≤ i) → get_or (rows_of c ++ take k (rows_of d)) i (row_at c 0) ≡ row_at (with_first k c d) i
      at i lt (inl less) =
          get_or_append_left (rows_of c) (take k (rows_of d)) (row_at c 0) i (omega (arith, less, length-rows_of c)) ∙ get_or-rows_of c i (row_at c 0) less ∙ before i less
      at i lt (inr more) =
          let j : ℕ = i - length c.sync in
          let is : length c.sync + j ≡ i = omega (arith, more) in
          let low : j < k = omega (arith, lt, more) in
          let row = after (rows_of c) (take k (rows_of d)) (length c.sync) j (row_at c 0) (length-rows_of c) ∙ get_or-take k (rows_of d) j (row_at c 0) low ∙ get_or-rows_of d j (row_at c 0) (omega (arith, low, fits)) ∙ here_after j low in
          subst (λ n. get_or (rows_of c ++ take k (rows_of d)) n (row_at c 0) ≡ row_at (with_first k c d) n) is row

  -- and are still those of a batch
  pub AreColumns-first : AreColumns capacity (with_first k c d)
  AreColumns-first =
      record {
        other = both_long c.other d.other whole.other others.other;
        key = both_long c.key d.key whole.key others.key;
        hash = both_long c.hash d.hash whole.hash others.hash;
        occupied = both_long c.occupied d.occupied whole.occupied others.occupied;
        payload = subst (λ n. All (IsColumn n capacity) (extended k c.payload d.payload)) (sym more_rows)
            (columns-extended k (length c.sync) capacity (length d.sync) room fits c.payload d.payload kinds whole.payload others.payload);
        sync_times = All-append (λ x. x ≤ inf) c.sync (take k d.sync) whole.sync_times (All-take (λ x. x ≤ inf) k d.sync others.sync_times);
        other_times = All-append (λ x. x ≤ inf) c.other (take k d.other) whole.other_times (All-take (λ x. x ≤ inf) k d.other others.other_times);
      }
    where
      both_long : {X : Type 0} (xs ys : List X) → length xs ≡ length c.sync → length ys ≡ length d.sync → length (xs ++ take k ys) ≡ length (c.sync ++ take k d.sync)
      both_long xs ys ex ey = length-append xs (take k ys) ∙ omega (arith, ex, length-take-le k ys (omega (arith, fits, ey)), more_rows)
