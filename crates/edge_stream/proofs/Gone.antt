-- Edges that go: that of one row, those of the first rows, and those of the first batches.
use Rattle.std.proofs.Common.{◌≡◌, ◌≤◌, ◌<◌, ℕ, zero, suc, ◌+◌, ◌&&◌, Bool, true, false, cond, List, [], ◌∷◌, ◌++◌, map, length, get_or, set, take, drop, refl, ap, sym, ◌∙◌, subst, arith, add-one, append_assoc, append-nil, drop-cons}
use Rattle.std.specs.Prelude.{Some, filter, slice_get, nat_eq, nat_lt, not, ◌↔◌}
use Rattle.std.specs.List.{list_all}
use Rattle.std.proofs.lemmas.List.{set_split, take_more_set, drop-set-lt}
use Rattle.std.proofs.lemmas.List.Elements.{All-tail, All-append, filter-append}
use Rattle.std.proofs.lemmas.List.Folds.{list_all-append}
use Rattle.std.proofs.lemmas.Option.{get_or_from_slice_get}
use Rattle.std.proofs.lemmas.Bool.{and_parts, eqb-true}
use Rattle.std.proofs.lemmas.Bool.Decides.{nat_tests}
use Rattle.tw_rows.specs.Instant.{inf}
use Rattle.tw_rows.specs.Bag.{total, SameBag}
use Rattle.tw_rows.specs.SameCells.{same_cells, cells_are_same, same_cells-Decides}
use Rattle.tw_rows.proofs.Bags.{total-append}
use Rattle.tw_rows.specs.declared.cells.Datum.{Datum}
use Rattle.tw_rows.specs.declared.edge.Edge.{Edge}
use Rattle.batch.specs.Rows.{Row, Table, edge_of, edges_of, occupied_rows}
use Rattle.batch.proofs.Keeping.{no_row}
use Rattle.edge_history.specs.Order.{Rises, IsReal, KeepsOrder, rank, is_end, is_below, is_from, many, starts_it}
use Rattle.edge_history.proofs.Rising.{Rises-less}
use Rattle.edge_history.proofs.Keeping.{KeepsOrder-front, KeepsOrder-back}
use Rattle.edge_stream.specs.Listing.{edges_in}
use Rattle.edge_stream.proofs.Parts.{filter-none, length-filter-le}
use Rattle.edge_stream.proofs.Rising.{below-not_from, lower_clean, upper_clean}
use Rattle.edge_stream.proofs.Cutting.{edges_in-append}
use Rattle.edge_stream.proofs.Fronts.{edges-append, edges_parts, one_more, no_more}
use Rattle.edge_stream.proofs.Passing.{next_in, whole_in}

-- ---- one edge less

rises_without : (r : ℕ) (a b : List Edge) (e : Edge) → Rises r (a ++ e ∷ b) → Rises r (a ++ b)
rises_without r [] b e h = Rises-less (rank e) r b h.0 h.1
rises_without r (x ∷ a) b e h = (h.0, rises_without (rank x) a b e h.1)

pub order_without : (a b : List Edge) (e : Edge) → KeepsOrder (a ++ e ∷ b) → KeepsOrder (a ++ b)
order_without a b e h = record {
  rises = rises_without 0 a b e h.rises;
  real = All-append IsReal a b (KeepsOrder-front a (e ∷ b) h).real (All-tail IsReal e b (KeepsOrder-back a (e ∷ b) h).real);
}

bag_without : (a b : List Edge) (e : Edge) → SameBag (e ∷ (a ++ b)) (a ++ e ∷ b)
bag_without a b e = record { weigh = λ w. omega (arith, total-append w a b, total-append w a (e ∷ b)) }

-- the start edge that the test finds
pub start_is : (cells : List Datum) (start : ℕ) (e : Edge) → starts_it cells start e ≡ true → e ≡ record { sync = start; other = inf; cells = cells }
start_is cells start e h =
    let p = and_parts (nat_eq e.other inf) (not (is_end e) && (same_cells e.cells cells && nat_eq e.sync start)) h in
    let q = and_parts (not (is_end e)) (same_cells e.cells cells && nat_eq e.sync start) p.1 in
    let r = and_parts (same_cells e.cells cells) (nat_eq e.sync start) q.1 in
    let a = eqb-true e.other inf p.0 in
    let b = cells_are_same e.cells cells r.0 in
    let s = eqb-true e.sync start r.1 in
    λ i. record { sync = s i; other = a i; cells = b i }

-- the test, where the times are those of the start
pub start_test : (cells : List Datum) (start : ℕ) (r : Row) (d : Bool) → r.other ≡ inf → r.sync ≡ start → start ≤ inf → (d ≡ true) ↔ (r.cells ≡ cells) → d ≡ starts_it cells start (edge_of r)
start_test cells start r d other sync low same = pick (same_cells r.cells cells) d refl same
  where
    ends : nat_eq r.other inf ≡ true
    ends = grind (arith, nat_tests)

    late : nat_lt r.other r.sync ≡ false
    late = grind (arith, nat_tests)

    starts : nat_eq r.sync start ≡ true
    starts = grind (arith, nat_tests)

    pick : (v x : Bool) → same_cells r.cells cells ≡ v → (x ≡ true) ↔ (r.cells ≡ cells) → x ≡ (nat_eq r.other inf && (not (nat_lt r.other r.sync) && (v && nat_eq r.sync start)))
    pick true true is k = rw (ends, late, starts) refl
    pick true false is k = let wrong : false ≡ true = k.1 (cells_are_same r.cells cells is) in absurd (cc)
    pick false true is k = let wrong : same_cells r.cells cells ≡ true = (same_cells-Decides r.cells cells).1 (k.0 refl) in absurd (cc)
    pick false false is k = rw (ends, late) refl

pub no_start_other : (cells : List Datum) (start : ℕ) (r : Row) → (r.other ≡ inf → ⊥) → false ≡ starts_it cells start (edge_of r)
no_start_other cells start r apart = let no : nat_eq r.other inf ≡ false = grind (arith, nat_tests) in rw no refl

pub no_start_sync : (cells : List Datum) (start : ℕ) (r : Row) → (r.sync ≡ start → ⊥) → false ≡ starts_it cells start (edge_of r)
no_start_sync cells start r apart = pick (nat_eq r.other inf) (not (nat_lt r.other r.sync)) (same_cells r.cells cells)
  where
    no : nat_eq r.sync start ≡ false
    no = grind (arith, nat_tests)

    pick : (a b c : Bool) → false ≡ (a && (b && (c && nat_eq r.sync start)))
    pick true true true = rw no refl
    pick true true false = refl
    pick true false c = refl
    pick false b c = refl

-- ---- rows without such a start

module _ (p : Edge → Bool) (rows : List Row) (i : ℕ) (lt : i < length rows) (none : many p (edges_of (take i rows)) ≡ 0) where
  pub none_there : (get_or rows i no_row).occupied ≡ true → p (edge_of (get_or rows i no_row)) ≡ false → many p (edges_of (take (i + 1) rows)) ≡ 0
  none_there holds not_it =
      let w : Edge → ℕ = λ e. cond (p e) 1 0 in
      let e = edge_of (get_or rows i no_row) in
      let zero_there : cond {A = ℕ} (p e) 1 0 ≡ 0 = ap (λ b. cond b 1 0) not_it in
      omega (arith, ap (total w) (one_more rows i lt holds), total-append w (edges_of (take i rows)) (e ∷ []), zero_there, none)

  pub none_held : (get_or rows i no_row).occupied ≡ false → many p (edges_of (take (i + 1) rows)) ≡ 0
  none_held clear = ap (many p) (no_more rows i lt clear) ∙ none

-- ---- a row that is cleared

pub edges_set : (bs : List Table) (n : ℕ) (new : Table) → n < length bs → edges_in (set bs n new) ≡ edges_in (take n bs) ++ (edges_of new.rows ++ edges_in (drop (suc n) bs))
edges_set bs n new lt = ap edges_in (set_split bs n new lt) ∙ edges_in-append (take n bs) (new ∷ drop (suc n) bs)

module _ (rows : List Row) (i : ℕ) (r : Row) (lt : i < length rows) (found : slice_get rows i ≡ Some r) where
  pub edges_cleared : edges_of (set rows i (record r { occupied = false })) ≡ edges_of (take i rows) ++ edges_of (drop (suc i) rows)
  edges_cleared = ap edges_of (set_split rows i (record r { occupied = false }) lt) ∙ edges-append (take i rows) (record r { occupied = false } ∷ drop (suc i) rows)

  edges_with : r.occupied ≡ true → edges_of rows ≡ edges_of (take i rows) ++ (edge_of r ∷ edges_of (drop (suc i) rows))
  edges_with holds =
      sym (edges_parts i rows) ∙ ap (λ l. edges_of (take i rows) ++ edges_of l) (drop-cons rows i r lt ∙ ap (λ x. x ∷ drop (suc i) rows) (get_or_from_slice_get rows i r r found))
      ∙ ap (λ b. edges_of (take i rows) ++ map edge_of (cond b (r ∷ occupied_rows (drop (suc i) rows)) (occupied_rows (drop (suc i) rows)))) holds

  -- in a batch of several
  module _ (bs : List Table) (n : ℕ) (b new : Table) (low : n < length bs) (is : b ≡ get_or bs n b) (same : b.rows ≡ rows) (holds : r.occupied ≡ true)
      (gone : new.rows ≡ set rows i (record r { occupied = false })) where
    abbrev front : List Edge
    front = edges_in (take n bs) ++ edges_of (take i rows)

    abbrev rest : List Edge
    rest = edges_of (drop (suc i) rows) ++ edges_in (drop (suc n) bs)

    was : edges_in bs ≡ front ++ edge_of r ∷ rest
    was =
        whole_in bs n b low is ∙ (λ j. edges_in (take n bs) ++ (edges_of (same j) ++ edges_in (drop (add-one n j) bs)))
        ∙ ap (λ l. edges_in (take n bs) ++ (l ++ edges_in (drop (suc n) bs))) (edges_with holds)
        ∙ ap (λ l. edges_in (take n bs) ++ l) (append_assoc (edges_of (take i rows)) (edge_of r ∷ edges_of (drop (suc i) rows)) (edges_in (drop (suc n) bs)))
        ∙ sym (append_assoc (edges_in (take n bs)) (edges_of (take i rows)) (edge_of r ∷ rest))

    now : edges_in (set bs n new) ≡ front ++ rest
    now =
        edges_set bs n new low ∙ ap (λ l. edges_in (take n bs) ++ (l ++ edges_in (drop (suc n) bs))) (ap edges_of gone ∙ edges_cleared)
        ∙ ap (λ l. edges_in (take n bs) ++ l) (append_assoc (edges_of (take i rows)) (edges_of (drop (suc i) rows)) (edges_in (drop (suc n) bs)))
        ∙ sym (append_assoc (edges_in (take n bs)) (edges_of (take i rows)) rest)

    pub order_cleared : KeepsOrder (edges_in bs) → KeepsOrder (edges_in (set bs n new))
    order_cleared h = subst KeepsOrder (sym now) (order_without front rest (edge_of r) (subst KeepsOrder was h))

    pub bag_cleared : (cells : List Datum) (start : ℕ) → starts_it cells start (edge_of r) ≡ true → SameBag (record { sync = start; other = inf; cells = cells } ∷ edges_in (set bs n new)) (edges_in bs)
    bag_cleared cells start starts =
        let e : edge_of r ≡ record { sync = start; other = inf; cells = cells } = start_is cells start (edge_of r) starts in
        let both : SameBag (edge_of r ∷ (front ++ rest)) (front ++ edge_of r ∷ rest) = bag_without front rest (edge_of r) in
        let moved : SameBag (edge_of r ∷ edges_in (set bs n new)) (edges_in bs) = subst (λ l. SameBag (edge_of r ∷ edges_in (set bs n new)) l) (sym was) (subst (λ l. SameBag (edge_of r ∷ l) (front ++ edge_of r ∷ rest)) (sym now) both) in
        subst (λ x. SameBag (x ∷ edges_in (set bs n new)) (edges_in bs)) e moved

-- ---- the first rows

-- one row more of those that hold no edge
pub none_cleared : (rows : List Row) (i : ℕ) (r : Row) → i < length rows → edges_of (take i rows) ≡ [] → edges_of (take (i + 1) (set rows i (record r { occupied = false }))) ≡ []
none_cleared rows i r lt none =
    ap edges_of (take_more_set rows i (record r { occupied = false }) lt) ∙ edges-append (take i rows) (record r { occupied = false } ∷ []) ∙ ap (λ l. l ++ []) none

drop_tail : (i : ℕ) (rows : List Row) → drop 1 (drop i rows) ≡ drop (suc i) rows
drop_tail zero rows = refl
drop_tail (suc i) [] = refl
drop_tail (suc i) (r ∷ rs) = drop_tail i rs

-- and the others are as they were
pub rest_cleared : (rows old : List Row) (i : ℕ) (y : Row) → drop i rows ≡ drop i old → drop (i + 1) (set rows i y) ≡ drop (i + 1) old
rest_cleared rows old i y same =
    drop-set-lt (i + 1) rows i y (omega arith) ∙ (ap (λ n. drop n rows) (add-one i) ∙ sym (drop_tail i rows)) ∙ ap (drop 1) same ∙ (drop_tail i old ∙ ap (λ n. drop n old) (sym (add-one i)))

-- as many are occupied as there are
pub all_occupied : (rows : List Row) → length (occupied_rows rows) ≡ length rows → occupied_rows rows ≡ rows
all_occupied [] h = refl
all_occupied (r ∷ rs) h = pick r.occupied h (all_occupied rs)
  where
    pick : (b : Bool) → length (cond b (r ∷ occupied_rows rs) (occupied_rows rs)) ≡ suc (length rs) → (length (occupied_rows rs) ≡ length rs → occupied_rows rs ≡ rs) →
        cond b (r ∷ occupied_rows rs) (occupied_rows rs) ≡ r ∷ rs
    pick true k rest = ap (λ l. r ∷ l) (rest (omega (arith, k)))
    pick false k rest = absurd (omega (arith, k, length-filter-le (λ q. q.occupied) rs))

-- where no edge stands from a row on, those before it are all
pub all_before : (k : ℕ) (rows : List Row) → edges_of (drop k rows) ≡ [] → edges_of (take k rows) ≡ edges_of rows
all_before k rows none = sym (append-nil (edges_of (take k rows))) ∙ ap (λ l. edges_of (take k rows) ++ l) (sym none) ∙ edges_parts k rows

pub all_low : (t k : ℕ) (rows : List Row) → list_all (is_below t) (edges_of (take k rows)) ≡ true → edges_of (drop k rows) ≡ [] → list_all (is_below t) (edges_of rows) ≡ true
all_low t k rows low none = ap (list_all (is_below t)) (sym (all_before k rows none)) ∙ low

-- ---- the first batches

-- the first batch keeps what does not come before t
pub front_cut : (t k : ℕ) (bs : List Table) (b new : Table) → 0 < length bs → b ≡ get_or bs 0 b → edges_of new.rows ≡ edges_of (drop k b.rows) →
    list_all (is_below t) (edges_of (take k b.rows)) ≡ true → list_all (is_from t) (edges_of (drop k b.rows)) ≡ true → list_all (is_from t) (edges_in (drop 1 bs)) ≡ true →
    edges_in (set bs 0 new) ≡ filter (is_from t) (edges_in bs)
front_cut t k [] b new lt is left low high later = absurd (omega (arith, lt))
front_cut t k (x ∷ bs) b new lt is left low high later =
    let a = edges_of (take k b.rows) in
    let r = edges_of (drop k b.rows) ++ edges_in bs in
    let from : list_all (is_from t) r ≡ true = list_all-append (is_from t) (edges_of (drop k b.rows)) (edges_in bs) ∙ rw (high, later) refl in
    let whole : a ++ r ≡ edges_in (x ∷ bs) =
    sym (append_assoc a (edges_of (drop k b.rows)) (edges_in bs)) ∙ ap (λ l. l ++ edges_in bs) (edges_parts k b.rows) ∙ ap (λ c. edges_of c.rows ++ edges_in bs) is in
    ap (λ l. l ++ edges_in bs) left ∙ upper_clean t a r low from ∙ ap (filter (is_from t)) whole

-- a batch whose edges all come before t goes
pub front_gone : (t : ℕ) (bs : List Table) (b : Table) → 0 < length bs → b ≡ get_or bs 0 b → list_all (is_below t) (edges_of b.rows) ≡ true →
    filter (is_from t) (edges_in (drop 1 bs)) ≡ filter (is_from t) (edges_in bs)
front_gone t [] b lt is low = absurd (omega (arith, lt))
front_gone t (x ∷ bs) b lt is low =
    let none : filter (is_from t) (edges_of x.rows) ≡ [] = filter-none (is_below t) (is_from t) (below-not_from t) (edges_of x.rows) (ap (λ c. list_all (is_below t) (edges_of c.rows)) (sym is) ∙ low) in
    sym (filter-append (is_from t) (edges_of x.rows) (edges_in bs) ∙ ap (λ l. l ++ filter (is_from t) (edges_in bs)) none)

-- ---- the copies

-- the batch is the last one with edges before t
module _ (t k : ℕ) (bs : List Table) (n : ℕ) (b : Table) (lt : n < length bs) (is : b ≡ get_or bs n b) (below : list_all (is_below t) (edges_in (take n bs)) ≡ true)
    (low : list_all (is_below t) (edges_of (take k b.rows)) ≡ true) where
  abbrev parts : List Edge
  parts = edges_in (take n bs) ++ edges_of (take k b.rows)

  pub low_parts : list_all (is_below t) parts ≡ true
  low_parts = list_all-append (is_below t) (edges_in (take n bs)) (edges_of (take k b.rows)) ∙ rw (below, low) refl

  whole_parts : edges_in bs ≡ parts ++ (edges_of (drop k b.rows) ++ edges_in (drop (n + 1) bs))
  whole_parts =
      whole_in bs n b lt is ∙ ap (λ l. edges_in (take n bs) ++ (l ++ edges_in (drop (n + 1) bs))) (sym (edges_parts k b.rows))
      ∙ ap (λ l. edges_in (take n bs) ++ l) (append_assoc (edges_of (take k b.rows)) (edges_of (drop k b.rows)) (edges_in (drop (n + 1) bs)))
      ∙ sym (append_assoc (edges_in (take n bs)) (edges_of (take k b.rows)) (edges_of (drop k b.rows) ++ edges_in (drop (n + 1) bs)))

  pub parts_are_low : list_all (is_from t) (edges_of (drop k b.rows)) ≡ true → list_all (is_from t) (edges_in (drop (n + 1) bs)) ≡ true → parts ≡ filter (is_below t) (edges_in bs)
  parts_are_low high later =
      let from : list_all (is_from t) (edges_of (drop k b.rows) ++ edges_in (drop (n + 1) bs)) ≡ true = list_all-append (is_from t) (edges_of (drop k b.rows)) (edges_in (drop (n + 1) bs)) ∙ rw (high, later) refl in
      lower_clean t parts (edges_of (drop k b.rows) ++ edges_in (drop (n + 1) bs)) low_parts from ∙ ap (filter (is_below t)) (sym whole_parts)

  pub parts_all : edges_of (drop k b.rows) ≡ [] → parts ≡ edges_in (take (n + 1) bs)
  parts_all none = ap (λ l. edges_in (take n bs) ++ l) (all_before k b.rows none) ∙ sym (next_in bs n b lt is)

  -- what is there, and what is copied, keeps the order
  module _ (out to : List Edge) (so_far : to ≡ out ++ edges_in (take n bs)) where
    pub order_parts : KeepsOrder (out ++ edges_in bs) → KeepsOrder (to ++ edges_of (take k b.rows))
    order_parts h =
        let whole : out ++ edges_in bs ≡ (to ++ edges_of (take k b.rows)) ++ (edges_of (drop k b.rows) ++ edges_in (drop (n + 1) bs)) =
        ap (λ l. out ++ l) whole_parts ∙ sym (append_assoc out parts (edges_of (drop k b.rows) ++ edges_in (drop (n + 1) bs)))
        ∙ ap (λ l. l ++ (edges_of (drop k b.rows) ++ edges_in (drop (n + 1) bs))) (sym (append_assoc out (edges_in (take n bs)) (edges_of (take k b.rows))) ∙ ap (λ l. l ++ edges_of (take k b.rows)) (sym so_far)) in
        KeepsOrder-front (to ++ edges_of (take k b.rows)) (edges_of (drop k b.rows) ++ edges_in (drop (n + 1) bs)) (subst KeepsOrder whole h)

    pub copied_parts : (new : List Edge) → new ≡ to ++ edges_of (take k b.rows) → new ≡ out ++ parts
    copied_parts new is_new = is_new ∙ ap (λ l. l ++ edges_of (take k b.rows)) so_far ∙ append_assoc out (edges_in (take n bs)) (edges_of (take k b.rows))
