-- How payload columns change one by one, and the cells that they then hold.
use Rattle.std.proofs.Common.{◌≡◌, ℕ, zero, suc, ◌+◌, ◌<◌, ◌≤◌, pos, List, [], ◌∷◌, ◌++◌, map, length, get_or, set, ◌-◌, ℤ, Bool, refl, ap, sym, ◌∙◌, arith, add-one}
use Rattle.std.specs.Prelude.{All, Some, slice_get}
use Rattle.std.specs.List.{refill}
use Rattle.std.proofs.lemmas.List.{map-append, get_or_append_left, get_or-append_right, length-append, length-map, get_or-map}
use Rattle.std.proofs.lemmas.Option.{get_or_from_slice_get}
use Rattle.std.proofs.lemmas.List.Elements.{All-head, All-tail, All-cons, All-nil}
use Rattle.tw_rows.specs.declared.cells.Datum.{Datum}
use Rattle.tw_rows.specs.declared.cells.Datum.TheVariants.{Int, Bool as Flag, Text}
use Rattle.tw_rows.specs.Cells.{datum_kind}
use Rattle.tw_rows.specs.declared.kind.CellKind.TheVariants.{Whole, Bit, Place}
use Rattle.batch.specs.declared.payload.Payload.{Payload}
use Rattle.batch.specs.declared.payload.Payload.TheVariants.{Ints, Bits, Places}
use Rattle.batch.specs.Payloads.{payload_kind, payload_data, payload_capacity, payload_push, payload_clear, pushed, cells_at, HasRoom, Reaches}
use Rattle.batch.specs.Columns.{IsColumn}

-- the columns, the first n of them with their datum last
abbrev pub pushed_first : ℕ → List Payload → List Datum → List Payload
pushed_first zero ps ds = ps
pushed_first (suc n) [] ds = []
pushed_first (suc n) (p ∷ ps) [] = p ∷ ps
pushed_first (suc n) (p ∷ ps) (d ∷ ds) = payload_push p d ∷ pushed_first n ps ds

-- the columns, the first n of them cleared
abbrev pub cleared_first : ℕ → List Payload → List Payload
cleared_first zero ps = ps
cleared_first (suc n) [] = []
cleared_first (suc n) (p ∷ ps) = payload_clear p ∷ cleared_first n ps

pub pushed_first-all : (n : ℕ) (ps : List Payload) (ds : List Datum) → length ps ≤ n → pushed_first n ps ds ≡ pushed ps ds
pushed_first-all zero [] ds e = refl
pushed_first-all zero (p ∷ ps) ds e = absurd (omega arith)
pushed_first-all (suc n) [] ds e = refl
pushed_first-all (suc n) (p ∷ ps) [] e = refl
pushed_first-all (suc n) (p ∷ ps) (d ∷ ds) e = ap (λ qs. payload_push p d ∷ qs) (pushed_first-all n ps ds (omega arith))

pub length-pushed_first : (n : ℕ) (ps : List Payload) (ds : List Datum) → length (pushed_first n ps ds) ≡ length ps
length-pushed_first zero ps ds = refl
length-pushed_first (suc n) [] ds = refl
length-pushed_first (suc n) (p ∷ ps) [] = refl
length-pushed_first (suc n) (p ∷ ps) (d ∷ ds) = ap suc (length-pushed_first n ps ds)

-- the next column is still as it was
pub get_or-pushed_first : (n : ℕ) (ps : List Payload) (ds : List Datum) (d : Payload) → get_or (pushed_first n ps ds) n d ≡ get_or ps n d
get_or-pushed_first zero ps ds d = refl
get_or-pushed_first (suc n) [] ds d = refl
get_or-pushed_first (suc n) (p ∷ ps) [] d = refl
get_or-pushed_first (suc n) (p ∷ ps) (x ∷ ds) d = get_or-pushed_first n ps ds d

steps : (n : ℕ) (ps : List Payload) (ds : List Datum) (d : Payload) (e : Datum) → n < length ps → n < length ds →
    pushed_first (suc n) ps ds ≡ set (pushed_first n ps ds) n (payload_push (get_or ps n d) (get_or ds n e))
steps n [] ds d e lp ld = absurd (omega arith)
steps n (p ∷ ps) [] d e lp ld = absurd (omega arith)
steps zero (p ∷ ps) (x ∷ ds) d e lp ld = refl
steps (suc n) (p ∷ ps) (x ∷ ds) d e lp ld = ap (λ qs. payload_push p x ∷ qs) (steps n ps ds d e (omega arith) (omega arith))

-- one more column gets its datum
pub pushed_first-more : (n : ℕ) (ps : List Payload) (ds : List Datum) (d : Payload) (e : Datum) → n < length ps → n < length ds →
    pushed_first (n + 1) ps ds ≡ set (pushed_first n ps ds) n (payload_push (get_or ps n d) (get_or ds n e))
pushed_first-more n ps ds d e lp ld = rw add-one (steps n ps ds d e lp ld)

-- a column that got a datum has it last
pub payload_data-push : (p : Payload) (d : Datum) → datum_kind d ≡ payload_kind p → payload_data (payload_push p d) ≡ payload_data p ++ d ∷ []
payload_data-push (Ints c) (Int x) h = map-append Int c.items (x ∷ [])
payload_data-push (Ints c) (Flag b) h = absurd (cc)
payload_data-push (Ints c) (Text n) h = absurd (cc)
payload_data-push (Bits c) (Int x) h = absurd (cc)
payload_data-push (Bits c) (Flag b) h = map-append Flag c.items (b ∷ [])
payload_data-push (Bits c) (Text n) h = absurd (cc)
payload_data-push (Places c) (Int x) h = absurd (cc)
payload_data-push (Places c) (Flag b) h = absurd (cc)
payload_data-push (Places c) (Text n) h = map-append Text c.items (n ∷ [])

pub payload_kind-push : (p : Payload) (d : Datum) → payload_kind (payload_push p d) ≡ payload_kind p
payload_kind-push (Ints c) (Int x) = refl
payload_kind-push (Ints c) (Flag b) = refl
payload_kind-push (Ints c) (Text n) = refl
payload_kind-push (Bits c) (Int x) = refl
payload_kind-push (Bits c) (Flag b) = refl
payload_kind-push (Bits c) (Text n) = refl
payload_kind-push (Places c) (Int x) = refl
payload_kind-push (Places c) (Flag b) = refl
payload_kind-push (Places c) (Text n) = refl

pub payload_capacity-push : (p : Payload) (d : Datum) → payload_capacity (payload_push p d) ≡ payload_capacity p
payload_capacity-push (Ints c) (Int x) = refl
payload_capacity-push (Ints c) (Flag b) = refl
payload_capacity-push (Ints c) (Text n) = refl
payload_capacity-push (Bits c) (Int x) = refl
payload_capacity-push (Bits c) (Flag b) = refl
payload_capacity-push (Bits c) (Text n) = refl
payload_capacity-push (Places c) (Int x) = refl
payload_capacity-push (Places c) (Flag b) = refl
payload_capacity-push (Places c) (Text n) = refl

pub kinds-pushed : (ps : List Payload) (ds : List Datum) → map payload_kind (pushed ps ds) ≡ map payload_kind ps
kinds-pushed [] ds = refl
kinds-pushed (p ∷ ps) [] = refl
kinds-pushed (p ∷ ps) (d ∷ ds) = rw (payload_kind-push p d) (ap (λ ks. payload_kind p ∷ ks) (kinds-pushed ps ds))

-- the pushed columns have one cell more
pub columns-pushed : (count capacity : ℕ) (ps : List Payload) (ds : List Datum) → map datum_kind ds ≡ map payload_kind ps → All (IsColumn count capacity) ps →
    All (IsColumn (count + 1) capacity) (pushed ps ds)
columns-pushed count capacity [] ds h all = All-nil _
columns-pushed count capacity (p ∷ ps) [] h all = absurd (cc)
columns-pushed count capacity (p ∷ ps) (d ∷ ds) h all =
    let first : IsColumn count capacity p = All-head (IsColumn count capacity) p ps all in
    let same : datum_kind d ≡ payload_kind p = cc in
    let rest : map datum_kind ds ≡ map payload_kind ps = cc in
    let long = length-append (payload_data p) (d ∷ []) in
    let pushed_data = ap length (payload_data-push p d same) in
    All-cons (IsColumn (count + 1) capacity) _ _ (record {
      cells = grind (arith, pushed_data, long, first.cells);
      room = payload_capacity-push p d ∙ first.room;
    }) (columns-pushed count capacity ps ds rest (All-tail (IsColumn count capacity) p ps all))

-- at the places before, the cells are what they were
pub cells_at-pushed_before : (count capacity : ℕ) (ps : List Payload) (ds : List Datum) (i : ℕ) → map datum_kind ds ≡ map payload_kind ps → All (IsColumn count capacity) ps → i < count →
    cells_at (pushed ps ds) i ≡ cells_at ps i
cells_at-pushed_before count capacity [] ds i h all lt = refl
cells_at-pushed_before count capacity (p ∷ ps) [] i h all lt = refl
cells_at-pushed_before count capacity (p ∷ ps) (d ∷ ds) i h all lt =
    let first : IsColumn count capacity p = All-head (IsColumn count capacity) p ps all in
    let same : datum_kind d ≡ payload_kind p = cc in
    let rest : map datum_kind ds ≡ map payload_kind ps = cc in
    let within : i < length (payload_data p) = omega (arith, first.cells, lt) in
    let here : get_or (payload_data (payload_push p d)) i (Int (pos 0)) ≡ get_or (payload_data p) i (Int (pos 0)) = ap (λ xs. get_or xs i (Int (pos 0))) (payload_data-push p d same) ∙ get_or_append_left (payload_data p) (d ∷ []) (Int (pos 0)) i within in
    rw here (ap (λ cs. get_or (payload_data p) i (Int (pos 0)) ∷ cs) (cells_at-pushed_before count capacity ps ds i rest (All-tail (IsColumn count capacity) p ps all) lt))

-- at the new place are the cells that were added
pub cells_at-pushed_here : (count capacity : ℕ) (ps : List Payload) (ds : List Datum) → map datum_kind ds ≡ map payload_kind ps → All (IsColumn count capacity) ps →
    cells_at (pushed ps ds) count ≡ ds
cells_at-pushed_here count capacity [] [] h all = refl
cells_at-pushed_here count capacity [] (d ∷ ds) h all = absurd (cc)
cells_at-pushed_here count capacity (p ∷ ps) [] h all = absurd (cc)
cells_at-pushed_here count capacity (p ∷ ps) (d ∷ ds) h all =
    let first : IsColumn count capacity p = All-head (IsColumn count capacity) p ps all in
    let same : datum_kind d ≡ payload_kind p = cc in
    let rest : map datum_kind ds ≡ map payload_kind ps = cc in
    let last : get_or (payload_data p ++ d ∷ []) count (Int (pos 0)) ≡ get_or (d ∷ []) (count - count) (Int (pos 0)) = get_or-append_right (payload_data p) (d ∷ []) count count (Int (pos 0)) first.cells (omega arith) in
    let none : count - count ≡ 0 = omega arith in
    let here : get_or (payload_data (payload_push p d)) count (Int (pos 0)) ≡ d = ap (λ xs. get_or xs count (Int (pos 0))) (payload_data-push p d same) ∙ last ∙ ap (λ k. get_or (d ∷ []) k (Int (pos 0))) none in
    rw here (ap (λ cs. d ∷ cs) (cells_at-pushed_here count capacity ps ds rest (All-tail (IsColumn count capacity) p ps all)))

-- the cells of a row have the kinds of the columns
pub kinds-cells_at : (ps : List Payload) (i : ℕ) → All (Reaches i) ps → map datum_kind (cells_at ps i) ≡ map payload_kind ps
kinds-cells_at [] i all = refl
kinds-cells_at (p ∷ ps) i all =
    let here : datum_kind (get_or (payload_data p) i (Int (pos 0))) ≡ payload_kind p = kind_at p i (All-head (Reaches i) p ps all) in
    rw here (ap (λ ks. payload_kind p ∷ ks) (kinds-cells_at ps i (All-tail (Reaches i) p ps all)))
  where
    kind_at : (q : Payload) (j : ℕ) → j < length (payload_data q) → datum_kind (get_or (payload_data q) j (Int (pos 0))) ≡ payload_kind q
    kind_at (Ints c) j l = ints c.items j
      where
        ints : (xs : List ℤ) (k : ℕ) → datum_kind (get_or (map Int xs) k (Int (pos 0))) ≡ Whole
        ints [] k = refl
        ints (x ∷ xs) zero = refl
        ints (x ∷ xs) (suc k) = ints xs k
    kind_at (Bits c) j l = flags c.items j l
      where
        flags : (xs : List Bool) (k : ℕ) → k < length (map Flag xs) → datum_kind (get_or (map Flag xs) k (Int (pos 0))) ≡ Bit
        flags [] k l' = absurd (omega arith)
        flags (x ∷ xs) zero l' = refl
        flags (x ∷ xs) (suc k) l' = flags xs k (omega arith)
    kind_at (Places c) j l = places c.items j l
      where
        places : (xs : List ℕ) (k : ℕ) → k < length (map Text xs) → datum_kind (get_or (map Text xs) k (Int (pos 0))) ≡ Place
        places [] k l' = absurd (omega arith)
        places (x ∷ xs) zero l' = refl
        places (x ∷ xs) (suc k) l' = places xs k (omega arith)

pub length-cleared_first : (n : ℕ) (ps : List Payload) → length (cleared_first n ps) ≡ length ps
length-cleared_first zero ps = refl
length-cleared_first (suc n) [] = refl
length-cleared_first (suc n) (p ∷ ps) = ap suc (length-cleared_first n ps)

pub get_or-cleared_first : (n : ℕ) (ps : List Payload) (d : Payload) → get_or (cleared_first n ps) n d ≡ get_or ps n d
get_or-cleared_first zero ps d = refl
get_or-cleared_first (suc n) [] d = refl
get_or-cleared_first (suc n) (p ∷ ps) d = get_or-cleared_first n ps d

clears : (n : ℕ) (ps : List Payload) (d : Payload) → n < length ps → cleared_first (suc n) ps ≡ set (cleared_first n ps) n (payload_clear (get_or ps n d))
clears n [] d lt = absurd (omega arith)
clears zero (p ∷ ps) d lt = refl
clears (suc n) (p ∷ ps) d lt = ap (λ qs. payload_clear p ∷ qs) (clears n ps d (omega arith))

pub cleared_first-more : (n : ℕ) (ps : List Payload) (d : Payload) → n < length ps → cleared_first (n + 1) ps ≡ set (cleared_first n ps) n (payload_clear (get_or ps n d))
cleared_first-more n ps d lt = rw add-one (clears n ps d lt)

pub cleared_first-all : (n : ℕ) (ps : List Payload) → length ps ≤ n → cleared_first n ps ≡ map payload_clear ps
cleared_first-all zero [] e = refl
cleared_first-all zero (p ∷ ps) e = absurd (omega arith)
cleared_first-all (suc n) [] e = refl
cleared_first-all (suc n) (p ∷ ps) e = ap (λ qs. payload_clear p ∷ qs) (cleared_first-all n ps (omega arith))

-- cleared columns have no cell, and are of the kinds and the capacity that they were of
pub columns-cleared : (count capacity : ℕ) (ps : List Payload) → All (IsColumn count capacity) ps → All (IsColumn 0 capacity) (map payload_clear ps)
columns-cleared count capacity [] all = All-nil _
columns-cleared count capacity (p ∷ ps) all =
    All-cons (IsColumn 0 capacity) _ _ (one p (All-head (IsColumn count capacity) p ps all)) (columns-cleared count capacity ps (All-tail (IsColumn count capacity) p ps all))
  where
    one : (q : Payload) → IsColumn count capacity q → IsColumn 0 capacity (payload_clear q)
    one (Ints c) h = record { cells = refl; room = h.room }
    one (Bits c) h = record { cells = refl; room = h.room }
    one (Places c) h = record { cells = refl; room = h.room }

pub kinds-cleared : (ps : List Payload) → map payload_kind (map payload_clear ps) ≡ map payload_kind ps
kinds-cleared [] = refl
kinds-cleared (Ints c ∷ ps) = ap (λ ks. Whole ∷ ks) (kinds-cleared ps)
kinds-cleared (Bits c ∷ ps) = ap (λ ks. Bit ∷ ks) (kinds-cleared ps)
kinds-cleared (Places c ∷ ps) = ap (λ ks. Place ∷ ks) (kinds-cleared ps)

-- a place of the columns while they get their data one after another
module _ (n : ℕ) (ps xs : List Payload) (ds : List Datum) (same : xs ≡ pushed_first n ps ds) (lt : n < length ps) (kinds : map datum_kind ds ≡ map payload_kind ps) where
  still : (d : Payload) → get_or xs n d ≡ get_or ps n d
  still d = ap (λ l. get_or l n d) same ∙ get_or-pushed_first n ps ds d

  as_many : length ds ≡ length ps
  as_many = sym (length-map ds datum_kind) ∙ ap length kinds ∙ length-map ps payload_kind

  -- the next column is of its datum's kind
  pub pushed_first-kind : (d : Payload) (e : Datum) → datum_kind (get_or ds n e) ≡ payload_kind (get_or xs n d)
  pushed_first-kind d e =
      sym (get_or-map datum_kind ds n e Whole (omega (arith, lt, as_many))) ∙ ap (λ l. get_or l n Whole) kinds ∙ get_or-map payload_kind ps n d Whole lt ∙ ap payload_kind (sym (still d))

  -- and it has room
  pub pushed_first-room : (d : Payload) → All HasRoom ps → length (payload_data (get_or xs n d)) < payload_capacity (get_or xs n d)
  pushed_first-room d all =
      let column : HasRoom (get_or ps n d) = all n d lt in
      rw (still d) column

  pub pushed_first-next : (ys : List Payload) (p d : Payload) (e : Datum) → p ≡ payload_push (get_or xs n d) (get_or ds n e) → ys ≡ set xs n p → ys ≡ pushed_first (n + 1) ps ds
  pushed_first-next ys p d e pushed_one written =
      written ∙ ap (λ q. set xs n q) (pushed_one ∙ ap (λ q. payload_push q (get_or ds n e)) (still d)) ∙ ap (λ l. set l n (payload_push (get_or ps n d) (get_or ds n e))) same ∙ sym (pushed_first-more n ps ds d e lt (omega (arith, lt, as_many)))

-- the cell that a row has in a column
pub get_or-cells_at : (ps : List Payload) (n i : ℕ) (p d : Payload) (e r : Datum) → n < length ps → p ≡ get_or ps n d → slice_get (payload_data p) i ≡ Some r → get_or (cells_at ps i) n e ≡ r
get_or-cells_at ps n i p d e r lt is found =
    get_or-map (λ q. get_or (payload_data q) i (Int (pos 0))) ps n d e lt ∙ ap (λ q. get_or (payload_data q) i (Int (pos 0))) (sym is) ∙ get_or_from_slice_get (payload_data p) i r (Int (pos 0)) found

pub cleared_first-next : (n : ℕ) (ps xs : List Payload) → xs ≡ cleared_first n ps → n < length ps → (ys : List Payload) (p d : Payload) → p ≡ payload_clear (get_or xs n d) → ys ≡ set xs n p → ys ≡ cleared_first (n + 1) ps
cleared_first-next n ps xs same lt ys p d cleared_one written =
    let still : get_or xs n d ≡ get_or ps n d = ap (λ l. get_or l n d) same ∙ get_or-cleared_first n ps d in
    written ∙ ap (λ q. set xs n q) (cleared_one ∙ ap payload_clear still) ∙ ap (λ l. set l n (payload_clear (get_or ps n d))) same ∙ sym (cleared_first-more n ps d lt)

pub All-HasRoom : (count capacity : ℕ) (ps : List Payload) → All (IsColumn count capacity) ps → count < capacity → All HasRoom ps
All-HasRoom count capacity ps all lt k d within =
    let column : IsColumn count capacity (get_or ps k d) = all k d within in
    rw (column.cells, column.room) lt

pub All-Reaches : (count capacity i : ℕ) (ps : List Payload) → All (IsColumn count capacity) ps → i < count → All (Reaches i) ps
All-Reaches count capacity i ps all lt k d within =
    let column : IsColumn count capacity (get_or ps k d) = all k d within in
    rw column.cells lt

pub length-pushed : (ps : List Payload) (ds : List Datum) → length (pushed ps ds) ≡ length ps
length-pushed [] ds = refl
length-pushed (p ∷ ps) [] = refl
length-pushed (p ∷ ps) (d ∷ ds) = ap suc (length-pushed ps ds)

-- a slice that is written whole
pub refill_whole : (xs ws : List Payload) → length ws ≡ length xs → refill (length xs) xs ws ≡ ws
refill_whole [] [] e = refl
refill_whole [] (w ∷ ws) e = absurd (omega arith)
refill_whole (x ∷ xs) [] e = absurd (omega arith)
refill_whole (x ∷ xs) (w ∷ ws) e = ap (λ l. w ∷ l) (refill_whole xs ws (omega arith))

pub refill-pushed : (ps new seen : List Payload) (ds told : List Datum) → new ≡ pushed seen told → seen ≡ ps → told ≡ ds → refill (length ps) ps new ≡ pushed ps ds
refill-pushed ps new seen ds told e same cells =
    let is : new ≡ pushed ps ds = e ∙ (λ i. pushed (same i) (cells i)) in
    refill_whole ps new (ap length is ∙ length-pushed ps ds) ∙ is

pub refill-cleared : (ps new seen : List Payload) → new ≡ map payload_clear seen → seen ≡ ps → refill (length ps) ps new ≡ map payload_clear ps
refill-cleared ps new seen e same =
    let is : new ≡ map payload_clear ps = e ∙ ap (map payload_clear) same in
    refill_whole ps new (ap length is ∙ length-map ps payload_clear) ∙ is
