-- What is kept of a side, from step to step, and what is saved and loaded of it.
use Rattle.std.specs.Prelude.{◌≡◌, ℕ, ◌+◌, ◌<◌, ◌≤◌, ◌&&◌, ◌||◌, nat_eq, nat_lt, nat_le, not, Bool, true, false, cond, IsTrue, List, [], ◌∷◌, ◌++◌, map, flat_map, filter, ◌*◌, length, slice_get, Some, All, refl}
use Rattle.std.specs.List.{list_all}
use Rattle.std.proofs.Common.{sym, ◌∙◌, ap, arith, get_or, take}
use Rattle.std.proofs.lemmas.Bool.{eq-eqb}
use Rattle.std.proofs.lemmas.List.Elements.{All-weaker}
use Rattle.std.proofs.lemmas.List.Folds.{list_all_at}
use Rattle.std.proofs.lemmas.List.{take_more, map-append, append-nil, append_assoc, length-map, take_all}
use Rattle.std.proofs.lemmas.Grind.{flat_map-append}
use Rattle.std.proofs.lemmas.Option.{get_or_from_slice_get}
use Rattle.tw_rows.specs.Bag.{SameBag, total}
use Rattle.tw_rows.specs.Cells.{datum_kind}
use Rattle.tw_rows.specs.Instant.{inf}
use Rattle.tw_rows.specs.declared.cells.Datum.{Datum}
use Rattle.tw_rows.specs.declared.edge.Edge.{Edge}
use Rattle.tw_rows.specs.declared.edge.HeldRow.{HeldRow}
use Rattle.tw_rows.specs.declared.kind.CellKind.{CellKind}
use Rattle.tw_rows.proofs.Bags.{SameBag-refl, total-append, total-map, total-filter, total-flat_map}
use Rattle.edge_history.specs.History.{CellEvent, of}
use Rattle.edge_history.specs.Side.{reaches}
use Rattle.edge_history.specs.Order.{failing, many, is_below, is_from, IsReal, IsHistory}
use Rattle.edge_history.specs.Opens.{singles, open_of, opens, is_start, started_rows}
use Rattle.edge_history.proofs.Waiting.{side_bound}
use Rattle.edge_history.proofs.Sums.{failing-same, failing-All}
use Rattle.edge_stream.specs.declared.saved.SavedEntry.{SavedEntry}
use Rattle.edge_stream.specs.Entries.{entries_of, saved_edge, part_of}
use Rattle.edge_stream.proofs.CarriedParts.{saved_length, none_fails}
use Rattle.end_queue.specs.Pending.{Pending}
use Rattle.synopsis.proofs.Keyed.{ones}
use Rattle.sweep_sides.specs.Waiting.{queued, AreTimed}
use Rattle.sweep_sides.specs.Starts.{starts_from}
use Rattle.sweep_sides.specs.Sides.{IsSide}
use Rattle.sweep_laws.specs.Saving.{starts_of, rows_of, is_row_start, may_wait, are_row_starts, may_all_wait, HaveBegun}
use Rattle.sweep_laws.proofs.Stored.{stored_kinds, start_parts, wait_parts, rows_stepped, rest_wait, rows_started}

-- A STEP OF A SIDE
module _ (kinds : List CellKind) where
  pub side_stepped : (c d : ℕ) (rows rows2 : List HeldRow) (waiting put rest : List Pending) (new due : List Edge) → c ≤ d → IsSide kinds c rows waiting →
      All IsReal new → All (λ e. map datum_kind e.cells ≡ kinds) new →
      ((w : Edge → ℕ) → total w (queued put) ≡ total w (queued waiting) + total w (singles new)) →
      ((w : Edge → ℕ) → total w due + total w (queued rest) ≡ total w (queued put)) →
      failing (is_below d) due ≡ 0 → failing (is_from d) (queued rest) ≡ 0 → AreTimed rest →
      ((w : HeldRow → ℕ) → total w rows2 ≤ total w rows + total w (started_rows due)) → IsSide kinds d rows2 rest
  side_stepped c d rows rows2 waiting put rest new due low s real cells puts parts below from timed fewer = record {
    started = rows_stepped kinds c d (queued waiting) (queued put) (queued rest) new due s.later real cells puts parts rows rows2 low s.started below fewer;
    later = rest_wait kinds c d (queued waiting) (queued put) (queued rest) new due s.later real cells puts parts from;
    timed = timed;
  }

  -- LOADING: rows that entries start, and edges that wait
  pub side_loaded : (to : ℕ) (rows : List HeldRow) (waiting : List Pending) (starts edges : List Edge) → SameBag rows (rows_of starts) → SameBag (queued waiting) edges → AreTimed waiting →
      are_row_starts kinds to starts ≡ true → may_all_wait kinds to edges ≡ true → IsSide kinds to rows waiting
  side_loaded to rows waiting starts edges same same_edges timed all wait = record {
    started = rows_loaded to rows starts same all;
    later = failing-same (may_wait kinds to) (queued waiting) edges same_edges (none_fails (may_wait kinds to) edges wait);
    timed = timed;
  }
    where
      rows_loaded : (to : ℕ) (rows : List HeldRow) (starts : List Edge) → SameBag rows (rows_of starts) → are_row_starts kinds to starts ≡ true → HaveBegun kinds to rows
      rows_loaded to rows starts same all = rows_started kinds to rows starts same (none_fails (is_row_start kinds to) starts all)

-- the same of a side of which no row is kept
pub waiting_loaded : (kinds : List CellKind) (to : ℕ) (waiting : List Pending) (edges : List Edge) → SameBag (queued waiting) edges → AreTimed waiting → may_all_wait kinds to edges ≡ true → IsSide kinds to [] waiting
waiting_loaded kinds to waiting edges same timed wait = side_loaded kinds to [] waiting [] edges (SameBag-refl []) same timed refl wait

-- columns of the kinds store what rows and waiting edges have in them
pub row_cells : (kinds : List CellKind) (to : ℕ) (es : List Edge) → are_row_starts kinds to es ≡ true → All (λ e. map datum_kind e.cells ≡ kinds) es
row_cells kinds to es h =
    All-weaker (λ (e : Edge). IsTrue (is_row_start kinds to e)) (λ (e : Edge). map datum_kind e.cells ≡ kinds) (λ e k. stored_kinds kinds e.cells (start_parts kinds to e k).2) es
    ((failing-All (is_row_start kinds to) es).0 (none_fails (is_row_start kinds to) es h))

pub waiting_cells : (kinds : List CellKind) (from : ℕ) (es : List Edge) → may_all_wait kinds from es ≡ true → All (λ e. map datum_kind e.cells ≡ kinds) es
waiting_cells kinds from es h =
    All-weaker (λ (e : Edge). IsTrue (may_wait kinds from e)) (λ (e : Edge). map datum_kind e.cells ≡ kinds) (λ e k. stored_kinds kinds e.cells (wait_parts kinds from e k).3) es
    ((failing-All (may_wait kinds from) es).0 (none_fails (may_wait kinds from) es h))

-- edges of a part of which one fails a test
module _ (p : Edge → Bool) (part : ℕ) where
  abbrev fits : SavedEntry → Bool
  fits s = not (nat_eq s.part part) || p (saved_edge s)

  fits_all : (entries : List SavedEntry) → list_all p (part_of part entries) ≡ list_all fits entries
  fits_all [] = refl
  fits_all (s ∷ entries) = go (nat_eq s.part part) (fits_all entries)
    where
      go : (b : Bool) → list_all p (part_of part entries) ≡ list_all fits entries →
          list_all p (map saved_edge (cond b (s ∷ filter (λ r. nat_eq r.part part) entries) (filter (λ r. nat_eq r.part part) entries))) ≡ ((not b || p (saved_edge s)) && list_all fits entries)
      go true h = ap (λ c. p (saved_edge s) && c) h
      go false h = h

  pub part_fails : (saved entries : List SavedEntry) (i : ℕ) (s : SavedEntry) → entries ≡ saved → i < length entries → s ≡ get_or entries i s → s.part ≡ part → p (saved_edge s) ≡ false →
      false ≡ list_all p (part_of part saved)
  part_fails saved entries i s all low is own fails =
      let same : nat_eq s.part part ≡ true = eq-eqb s.part part own in
      let h = fits_all entries ∙ list_all_at fits entries i s low (ap fits (sym is) ∙ (λ k. not (same k) || fails k)) in
      sym (ap (λ l. list_all p (part_of part l)) (sym all) ∙ h)

-- ONE MORE
parted : (part : ℕ) (xs ys : List HeldRow) → entries_of part (starts_of (xs ++ ys)) ≡ entries_of part (starts_of xs) ++ entries_of part (starts_of ys)
parted part xs ys = ap (entries_of part) (map-append _ xs ys) ∙ map-append _ (starts_of xs) (starts_of ys)

pub row_next : (part : ℕ) (rows : List HeldRow) (i : ℕ) (r : HeldRow) (other : ℕ) (cells : List Datum) (saved0 saved1 saved2 : List SavedEntry) → i < length rows → r ≡ get_or rows i r → other ≡ inf → cells ≡ r.cells →
    saved2 ≡ saved1 ++ record { part = part; sync = r.start; other = other; cells = cells } ∷ [] → saved1 ≡ saved0 ++ entries_of part (starts_of (take i rows)) → saved2 ≡ saved0 ++ entries_of part (starts_of (take (i + 1) rows))
row_next part rows i r other cells saved0 saved1 saved2 low is far same more so_far =
    let it : ◌≡◌ {A = List SavedEntry} (record { part = part; sync = r.start; other = other; cells = cells } ∷ []) (entries_of part (starts_of (r ∷ []))) = λ k. record { part = part; sync = r.start; other = far k; cells = same k } ∷ [] in
    let next : entries_of part (starts_of (take (i + 1) rows)) ≡ entries_of part (starts_of (take i rows)) ++ entries_of part (starts_of (r ∷ [])) =
    ap (λ l. entries_of part (starts_of l)) (take_more rows i r low ∙ ap (λ x. take i rows ++ x ∷ []) (sym is)) ∙ parted part (take i rows) (r ∷ []) in
    more ∙ ((λ k. so_far k ++ it k) ∙ (append_assoc saved0 (entries_of part (starts_of (take i rows))) (entries_of part (starts_of (r ∷ []))) ∙ ap (λ l. saved0 ++ l) (sym next)))

pub block_next : (part : ℕ) (blocks : List (List HeldRow)) (i : ℕ) (b : List HeldRow) (saved0 saved1 saved2 : List SavedEntry) → i < length blocks → slice_get blocks i ≡ Some b →
    saved1 ≡ saved0 ++ entries_of part (starts_of (flat_map (λ x. x) (take i blocks))) → saved2 ≡ saved1 ++ entries_of part (starts_of b) →
    saved2 ≡ saved0 ++ entries_of part (starts_of (flat_map (λ x. x) (take (i + 1) blocks)))
block_next part blocks i b saved0 saved1 saved2 low is so_far more =
    let front : List HeldRow = flat_map (λ x. x) (take i blocks) in
    let next : flat_map (λ x. x) (take (i + 1) blocks) ≡ front ++ b =
    ap (flat_map (λ x. x)) (take_more blocks i b low ∙ ap (λ x. take i blocks ++ x ∷ []) (get_or_from_slice_get blocks i b b is))
    ∙ (flat_map-append (λ (x : List HeldRow). x) (take i blocks) (b ∷ []) ∙ ap (λ l. front ++ l) (append-nil b)) in
    more ∙ (ap (λ l. l ++ entries_of part (starts_of b)) so_far ∙ (append_assoc saved0 (entries_of part (starts_of front)) (entries_of part (starts_of b))
    ∙ ap (λ l. saved0 ++ l) (sym (ap (λ l. entries_of part (starts_of l)) next ∙ parted part front b))))

pub all_blocks : (part : ℕ) (rows : List HeldRow) (blocks : List (List HeldRow)) (k : ℕ) (saved0 saved1 : List SavedEntry) → length blocks ≤ k → rows ≡ flat_map (λ x. x) blocks →
    saved1 ≡ saved0 ++ entries_of part (starts_of (flat_map (λ x. x) (take k blocks))) → saved1 ≡ saved0 ++ entries_of part (starts_of rows)
all_blocks part rows blocks k saved0 saved1 far is so_far =
    so_far ∙ ap (λ l. saved0 ++ entries_of part (starts_of l)) (ap (flat_map (λ x. x)) (take_all k blocks far) ∙ sym is)

pub edge_more : (edges : List Edge) (i : ℕ) (e : Edge) (copy : Edge) (old new : List Pending) → i < length edges → e ≡ get_or edges i e → copy ≡ e →
    ((w : Edge → ℕ) → total w (queued new) ≡ total w (queued old) + w copy) → ((w : Edge → ℕ) → total w (queued old) ≡ total w (take i edges)) → (w : Edge → ℕ) → total w (queued new) ≡ total w (take (i + 1) edges)
edge_more edges i e copy old new low is same put so_far w =
    let a = put w in
    let b = so_far w in
    let c = ap (total w) (take_more edges i e low ∙ ap (λ x. take i edges ++ x ∷ []) (sym is)) in
    let d = total-append w (take i edges) (e ∷ []) in
    let f = ap w same in
    omega (arith, a, b, c, d, f)

pub row_more : (edges : List Edge) (i : ℕ) (e : Edge) (cells : List Datum) (old new : List HeldRow) → i < length edges → e ≡ get_or edges i e → cells ≡ e.cells →
    ((w : HeldRow → ℕ) → total w new ≡ total w old + w (record { cells = cells; start = e.sync })) → ((w : HeldRow → ℕ) → total w old ≡ total w (rows_of (take i edges))) →
    (w : HeldRow → ℕ) → total w new ≡ total w (rows_of (take (i + 1) edges))
row_more edges i e cells old new low is same put so_far w =
    let a = put w in
    let b = so_far w in
    let c = ap (λ l. total w (rows_of l)) (take_more edges i e low ∙ ap (λ x. take i edges ++ x ∷ []) (sym is)) in
    let d = total-map w (λ (x : Edge). record { cells = x.cells; start = x.sync }) (take i edges ++ e ∷ []) in
    let g = total-map w (λ (x : Edge). record { cells = x.cells; start = x.sync }) (take i edges) in
    let h = total-append (λ (x : Edge). w (record { cells = x.cells; start = x.sync })) (take i edges) (e ∷ []) in
    let f = ap (λ l. w (record { cells = l; start = e.sync })) same in
    omega (arith, a, b, c, d, g, h, f)

pub all_rows : (edges : List Edge) (rows : List HeldRow) (i : ℕ) → length edges ≤ i → ((w : HeldRow → ℕ) → total w rows ≡ total w (rows_of (take i edges))) → SameBag rows (rows_of edges)
all_rows edges rows i far so_far = record { weigh = λ w. so_far w ∙ ap (λ l. total w (rows_of l)) (take_all i edges far) }

-- HOW MUCH IS KEPT
-- at most two for each event that does not end before the time up to which it is kept
pub side_bounded : (h : List Edge) (to : ℕ) (rows : List HeldRow) (waiting : List Pending) → IsHistory h → SameBag rows (opens to (of h)) →
    SameBag (queued waiting) (filter (is_from to) (singles h)) → length rows + length waiting ≤ 2 * many (reaches to) (of h)
side_bounded h to rows waiting history held waits =
    let a = side_bound h rows (queued waiting) to history held waits in
    let b = length-map waiting (λ (p : Pending). p.edge) in
    omega (arith, a, b)

-- no more open rows than events that do not end before the time
pub open_few : (t : ℕ) (a : List CellEvent) (rows : List HeldRow) → SameBag rows (opens t a) → length rows ≤ many (reaches t) a
open_few t a rows h =
    let n = ones rows ∙ h.weigh (λ r. 1) ∙ total-flat_map (λ r. 1) (open_of t) a in
    let l = each a in
    omega (arith, n, l)
  where
    one : (b c : Bool) (r : HeldRow) → total (λ x. 1) (cond (b && c) (r ∷ []) []) ≤ cond c 1 0
    one true true r = omega arith
    one true false r = omega arith
    one false true r = omega arith
    one false false r = omega arith

    each : (es : List CellEvent) → total (λ e. total (λ r. 1) (open_of t e)) es ≤ many (reaches t) es
    each [] = omega arith
    each (e ∷ es) =
        let a = one (nat_lt e.start t) (nat_le t e.end) (record { cells = e.row; start = e.start }) in
        let r = each es in
        omega (arith, a, r)

-- the starts that wait are no more than twice the events that do not end before the time
pub starts_few : (h : List Edge) (to : ℕ) (waiting : List Pending) → IsHistory h → SameBag (queued waiting) (starts_from to h) → length waiting ≤ 2 * many (reaches to) (of h)
starts_few h to waiting k q =
    let a = side_bound h (opens to (of h)) (filter (is_from to) (singles h)) to k (SameBag-refl _) (SameBag-refl _) in
    let b = length-map waiting (λ (p : Pending). p.edge) in
    let n = ones (queued waiting) ∙ q.weigh (λ e. 1) ∙ total-filter (λ e. 1) is_start (filter (is_from to) (singles h)) in
    let l = less (filter (is_from to) (singles h)) in
    let m = ones (filter (is_from to) (singles h)) in
    omega (arith, a, b, n, l, m)
  where
    less : (es : List Edge) → total (λ e. cond {A = ℕ} (is_start e) 1 0) es ≤ total (λ e. 1) es
    less [] = omega arith
    less (e ∷ es) = let a = one (is_start e) in let b = less es in omega (arith, a, b)
      where
        one : (b : Bool) → cond {A = ℕ} b 1 0 ≤ 1
        one b = grind arith

-- and how many entries are saved of it: one for each row, and one for each edge that waits
pub rows_added : (part : ℕ) (rows : List HeldRow) (saved0 saved1 : List SavedEntry) → saved1 ≡ saved0 ++ entries_of part (starts_of rows) → length saved1 ≡ length saved0 + length rows
rows_added part rows saved0 saved1 is =
    let a = saved_length saved0 saved1 part (starts_of rows) is in
    let b : length (starts_of rows) ≡ length rows = length-map rows (λ (r : HeldRow). record { sync = r.start; other = inf; cells = r.cells }) in
    omega (arith, a, b)

pub waiting_added : (part : ℕ) (waiting : List Pending) (saved0 saved1 : List SavedEntry) → saved1 ≡ saved0 ++ entries_of part (queued waiting) → length saved1 ≡ length saved0 + length waiting
waiting_added part waiting saved0 saved1 is =
    let a = saved_length saved0 saved1 part (queued waiting) is in
    let b = length-map waiting (λ (p : Pending). p.edge) in
    omega (arith, a, b)

-- nothing is kept of a side at first
pub none_side : (kinds : List CellKind) (to : ℕ) (rows : List HeldRow) (waiting : List Pending) → rows ≡ [] → waiting ≡ [] → IsSide kinds to rows waiting
none_side kinds to rows waiting e f = rw (e, f) (record { started = refl; later = refl; timed = refl })
