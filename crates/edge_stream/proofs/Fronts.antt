-- The first rows of a batch, and those that are left: their edges, and how many there are.
use Rattle.std.proofs.Common.{◌≡◌, ◌≤◌, ◌<◌, ℕ, zero, suc, ◌+◌, ◌&&◌, Bool, true, false, cond, List, [], ◌∷◌, ◌++◌, map, length, get_or, take, drop, refl, ap, sym, ◌∙◌, subst, arith, add-one, append-nil, drop-cons}
use Rattle.std.specs.Prelude.{Option, Some, None, IfSome, IfNone, filter}
use Rattle.std.specs.Option.{is_some}
use Rattle.std.specs.List.{list_all}
use Rattle.std.proofs.lemmas.List.{take-append-drop, take_more, map-append, length-map, length-take}
use Rattle.std.proofs.lemmas.List.Elements.{filter-append}
use Rattle.std.proofs.lemmas.List.Folds.{list_all-append}
use Rattle.std.proofs.lemmas.Option.{slice_get-get_or}
use Rattle.std.proofs.lemmas.Bool.{and_parts}
use Rattle.std.proofs.lemmas.Bool.Decides.{nat_tests}
use Rattle.occupancy.specs.Bits.{IsNextSet, IsNoneSet}
use Rattle.occupancy.proofs.Filtered.{filter-none_set, filter-next_set}
use Rattle.tw_rows.proofs.Bags.{total-append}
use Rattle.tw_rows.specs.declared.edge.Edge.{Edge}
use Rattle.batch.specs.Rows.{Row, edge_of, edges_of, occupied_rows}
use Rattle.batch.proofs.Keeping.{no_row}
use Rattle.edge_history.specs.Order.{Rises, many, is_below, is_from}
use Rattle.edge_history.proofs.Rising.{Rises-back}
use Rattle.edge_stream.proofs.Parts.{length-filter-le}
use Rattle.edge_stream.proofs.Rising.{later_from, below-not_from, from-not_below, upper_clean}
use Rattle.edge_stream.proofs.Rows.{edges-push_row}
use Rattle.edge_stream.proofs.Ahead.{row_occupied}

-- ---- one edge of a list in order

below-from : (t : ℕ) (e : Edge) → is_below t e ≡ false → is_from t e ≡ true
below-from t e h = grind (arith, nat_tests)

-- those before an edge that comes before t come before it too
pub front_below : (t : ℕ) (a b : List Edge) (e : Edge) → Rises 0 (a ++ e ∷ b) → is_below t e ≡ true → list_all (is_below t) (a ++ e ∷ []) ≡ true
front_below t a b e rises low = pick (list_all (is_below t) a) refl
  where
    pick : (v : Bool) → list_all (is_below t) a ≡ v → list_all (is_below t) (a ++ e ∷ []) ≡ true
    pick true is = list_all-append (is_below t) a (e ∷ []) ∙ rw (is, low) refl
    pick false is =
        let from = and_parts (is_from t e) (list_all (is_from t) b) (later_from t 0 a (e ∷ b) rises is) in
        let apart : is_from t e ≡ false = below-not_from t e low in
        let here : is_from t e ≡ true = from.0 in
        absurd (cc)

-- and those after one that does not come before t do not either
pub rest_high : (t : ℕ) (a b : List Edge) (e : Edge) → Rises 0 (a ++ e ∷ b) → is_below t e ≡ false → list_all (is_from t) (e ∷ b) ≡ true
rest_high t a b e rises high =
    let here : is_from t e ≡ true = below-from t e high in
    let some : list_all (is_below t) (e ∷ []) ≡ false = rw high refl in
    let rest : list_all (is_from t) b ≡ true = later_from t 0 (e ∷ []) b (Rises-back 0 a (e ∷ b) rises) some in
    rw (here, rest) refl

-- ---- the rows up to one, and those from it on

pub edges-append : (xs ys : List Row) → edges_of (xs ++ ys) ≡ edges_of xs ++ edges_of ys
edges-append xs ys = ap (map edge_of) (filter-append (λ r. r.occupied) xs ys) ∙ map-append edge_of (occupied_rows xs) (occupied_rows ys)

pub edges_parts : (n : ℕ) (rows : List Row) → edges_of (take n rows) ++ edges_of (drop n rows) ≡ edges_of rows
edges_parts n rows = sym (edges-append (take n rows) (drop n rows)) ∙ ap edges_of (take-append-drop n rows)

-- the edges from a row on are those that come at t or later
pub upper_rows : (t k : ℕ) (rows : List Row) → list_all (is_below t) (edges_of (take k rows)) ≡ true → list_all (is_from t) (edges_of (drop k rows)) ≡ true → edges_of (drop k rows) ≡ filter (is_from t) (edges_of rows)
upper_rows t k rows low high = upper_clean t (edges_of (take k rows)) (edges_of (drop k rows)) low high ∙ ap (filter (is_from t)) (edges_parts k rows)

module _ (rows : List Row) (from k : ℕ) (next : IsNextSet (map (λ r. r.occupied) rows) from k) where
  -- the next row that holds an edge holds the first one that is left
  pub edges_next : edges_of (drop from rows) ≡ edge_of (get_or rows k no_row) ∷ edges_of (drop (k + 1) rows)
  edges_next = ap (map edge_of) (filter-next_set (λ r. r.occupied) rows from k no_row next)

  there : IsNextSet (map (λ r. r.occupied) rows) k k
  there = record { in_range = omega arith; set = next.set; least = λ j a b. absurd (omega (arith, a, b)) }

  here : edges_of rows ≡ edges_of (take k rows) ++ (edge_of (get_or rows k no_row) ∷ edges_of (drop (k + 1) rows))
  here = sym (edges_parts k rows) ∙ ap (λ l. edges_of (take k rows) ++ map edge_of l) (filter-next_set (λ r. r.occupied) rows k k no_row there)

  -- no edge stands between
  pub edges_past : (high : ℕ) → from ≤ high → high ≤ k → edges_of (drop from rows) ≡ edges_of (drop high rows)
  edges_past high low le =
      let later : IsNextSet (map (λ r. r.occupied) rows) high k = record { in_range = le; set = next.set; least = λ j a b. next.least j (omega (arith, a, low)) b } in
      edges_next ∙ sym (ap (map edge_of) (filter-next_set (λ r. r.occupied) rows high k no_row later))

  module _ (t : ℕ) (within : k < length rows) (rises : Rises 0 (edges_of rows)) where
    -- its edge comes before t: so do all up to it
    pub low_row : is_below t (edge_of (get_or rows k no_row)) ≡ true → list_all (is_below t) (edges_of (take (k + 1) rows)) ≡ true
    low_row low =
        let r = get_or rows k no_row in
        let more : edges_of (take (k + 1) rows) ≡ edges_of (take k rows) ++ edge_of r ∷ [] =
        ap edges_of (take_more rows k no_row within) ∙ edges-push_row (take k rows) r (row_occupied rows k next.set r (slice_get-get_or rows k no_row within)) in
        ap (list_all (is_below t)) more ∙ front_below t (edges_of (take k rows)) (edges_of (drop (k + 1) rows)) (edge_of r) (subst (Rises 0) here rises) low

    -- it does not: nor does one that is left
    pub high_row : is_below t (edge_of (get_or rows k no_row)) ≡ false → list_all (is_from t) (edges_of (drop from rows)) ≡ true
    high_row high =
        ap (list_all (is_from t)) edges_next
        ∙ rest_high t (edges_of (take k rows)) (edges_of (drop (k + 1) rows)) (edge_of (get_or rows k no_row)) (subst (Rises 0) here rises) high

pub edges_none : (rows : List Row) (from : ℕ) → IsNoneSet (map (λ r. r.occupied) rows) from → edges_of (drop from rows) ≡ []
edges_none rows from none = ap (map edge_of) (filter-none_set (λ r. r.occupied) rows from none)

-- whether a next row holds an edge
pub some_left : (r : Option ℕ) (rows : List Row) (from : ℕ) → IfSome r (IsNextSet (map (λ q. q.occupied) rows) from) → is_some r ≡ true → edges_of (drop from rows) ≡ [] → ⊥
some_left None rows from found some none = absurd (cc)
some_left (Some k) rows from found some none = let next = edges_next rows from k found in absurd (cc)

pub none_left : (r : Option ℕ) (rows : List Row) (from : ℕ) → IfNone r (IsNoneSet (map (λ q. q.occupied) rows) from) → is_some r ≡ false → edges_of (drop from rows) ≡ []
none_left None rows from none is = edges_none rows from none
none_left (Some k) rows from none is = absurd (cc)

-- ---- how many edges the first rows hold

-- where all rows hold one
pub all_hold : (n : ℕ) (rows : List Row) → length (occupied_rows rows) ≡ length rows → n ≤ length rows → length (edges_of (take n rows)) ≡ n
all_hold zero rows all le = refl
all_hold (suc n) [] all le = absurd (omega (arith, le))
all_hold (suc n) (r ∷ rs) all le = pick r.occupied all (all_hold n rs)
  where
    pick : (b : Bool) → length (cond b (r ∷ occupied_rows rs) (occupied_rows rs)) ≡ suc (length rs) → (length (occupied_rows rs) ≡ length rs → n ≤ length rs → length (edges_of (take n rs)) ≡ n) →
        length (map edge_of (cond b (r ∷ occupied_rows (take n rs)) (occupied_rows (take n rs)))) ≡ suc n
    pick true k rest = let h = rest (omega (arith, k)) (omega (arith, le)) in omega (arith, h)
    pick false k rest = absurd (omega (arith, k, length-filter-le (λ q. q.occupied) rs))

pub fewer_hold : (m n : ℕ) (rows : List Row) → m ≤ n → length (edges_of (take m rows)) ≤ length (edges_of (take n rows))
fewer_hold zero n rows le = omega arith
fewer_hold (suc m) zero rows le = absurd (omega (arith, le))
fewer_hold (suc m) (suc n) [] le = omega arith
fewer_hold (suc m) (suc n) (r ∷ rs) le = pick r.occupied (fewer_hold m n rs (omega (arith, le)))
  where
    pick : (b : Bool) → length (edges_of (take m rs)) ≤ length (edges_of (take n rs)) → length (map edge_of (cond b (r ∷ occupied_rows (take m rs)) (occupied_rows (take m rs)))) ≤ length (map edge_of (cond b (r ∷ occupied_rows (take n rs)) (occupied_rows (take n rs))))
    pick true h = omega (arith, h)
    pick false h = h

-- no more than there are rows
pub few_hold : (n : ℕ) (rows : List Row) → length (edges_of (take n rows)) ≤ n
few_hold n rows = omega (arith, length-map (occupied_rows (take n rows)) edge_of, length-filter-le (λ r. r.occupied) (take n rows), length-take n rows)

-- one row more
module _ (rows : List Row) (i : ℕ) (lt : i < length rows) where
  abbrev r : Row
  r = get_or rows i no_row

  more : edges_of (take (i + 1) rows) ≡ edges_of (take i rows) ++ edges_of (r ∷ [])
  more = ap edges_of (take_more rows i no_row lt) ∙ edges-append (take i rows) (r ∷ [])

  left : edges_of (drop i rows) ≡ edges_of (r ∷ drop (i + 1) rows)
  left = ap edges_of (drop-cons rows i no_row lt ∙ ap (λ n. r ∷ drop n rows) (sym (add-one i)))

  pub one_more : r.occupied ≡ true → edges_of (take (i + 1) rows) ≡ edges_of (take i rows) ++ edge_of r ∷ []
  one_more set = more ∙ ap (λ b. edges_of (take i rows) ++ map edge_of (cond b (r ∷ []) [])) set

  pub no_more : r.occupied ≡ false → edges_of (take (i + 1) rows) ≡ edges_of (take i rows)
  no_more clear = more ∙ ap (λ b. edges_of (take i rows) ++ map edge_of (cond b (r ∷ []) [])) clear ∙ append-nil (edges_of (take i rows))

  pub edges_left : r.occupied ≡ true → edges_of (drop i rows) ≡ edge_of r ∷ edges_of (drop (i + 1) rows)
  edges_left holds = left ∙ ap (λ b. map edge_of (cond b (r ∷ occupied_rows (drop (i + 1) rows)) (occupied_rows (drop (i + 1) rows)))) holds

  pub edges_clear : r.occupied ≡ false → edges_of (drop i rows) ≡ edges_of (drop (i + 1) rows)
  edges_clear clear = left ∙ ap (λ b. map edge_of (cond b (r ∷ occupied_rows (drop (i + 1) rows)) (occupied_rows (drop (i + 1) rows)))) clear

-- ---- how many edges come before a time

pub many_all : (t : ℕ) (es : List Edge) → list_all (is_below t) es ≡ true → many (is_below t) es ≡ length es
many_all t [] h = refl
many_all t (e ∷ es) h =
    let parts = and_parts (is_below t e) (list_all (is_below t) es) h in
    let here : cond {A = ℕ} (is_below t e) 1 0 ≡ 1 = ap (λ b. cond b 1 0) parts.0 in
    let rest = many_all t es parts.1 in
    omega (arith, here, rest)

pub many_none : (t : ℕ) (es : List Edge) → list_all (is_from t) es ≡ true → many (is_below t) es ≡ 0
many_none t [] h = refl
many_none t (e ∷ es) h =
    let parts = and_parts (is_from t e) (list_all (is_from t) es) h in
    let here : cond {A = ℕ} (is_below t e) 1 0 ≡ 0 = ap (λ b. cond b 1 0) (from-not_below t e parts.0) in
    let rest = many_none t es parts.1 in
    omega (arith, here, rest)

-- all before a row come before t, and none from it on
pub many_front : (t k : ℕ) (rows : List Row) → list_all (is_below t) (edges_of (take k rows)) ≡ true → list_all (is_from t) (edges_of (drop k rows)) ≡ true → many (is_below t) (edges_of rows) ≡ length (edges_of (take k rows))
many_front t k rows low high =
    let both = ap (many (is_below t)) (sym (edges_parts k rows)) ∙ total-append (λ e. cond (is_below t e) 1 0) (edges_of (take k rows)) (edges_of (drop k rows)) in
    omega (arith, both, many_all t (edges_of (take k rows)) low, many_none t (edges_of (drop k rows)) high)

fewer : (s t : ℕ) (e : Edge) → s ≤ t → cond {A = ℕ} (is_below s e) 1 0 ≤ cond (is_below t e) 1 0
fewer s t e le = grind (arith, nat_tests)

-- before an earlier time no more
pub many_fewer : (s t : ℕ) (es : List Edge) → s ≤ t → many (is_below s) es ≤ many (is_below t) es
many_fewer s t [] le = omega arith
many_fewer s t (e ∷ es) le = let rest = many_fewer s t es le in omega (arith, rest, fewer s t e le)

-- an edge that is left comes at t or later, so that not all come before it
pub some_high : (t k : ℕ) (rows : List Row) → list_all (is_from t) (edges_of (drop k rows)) ≡ true → (edges_of (drop k rows) ≡ [] → ⊥) → list_all (is_below t) (edges_of rows) ≡ false
some_high t k rows high some =
    ap (list_all (is_below t)) (sym (edges_parts k rows)) ∙ list_all-append (is_below t) (edges_of (take k rows)) (edges_of (drop k rows))
    ∙ ap (λ b. list_all (is_below t) (edges_of (take k rows)) && b) (none_low (edges_of (drop k rows)) high some) ∙ and-false (list_all (is_below t) (edges_of (take k rows)))
  where
    and-false : (b : Bool) → (b && false) ≡ false
    and-false true = refl
    and-false false = refl

    none_low : (es : List Edge) → list_all (is_from t) es ≡ true → (es ≡ [] → ⊥) → list_all (is_below t) es ≡ false
    none_low [] all there = absurd (there refl)
    none_low (e ∷ es) all there =
        let parts = and_parts (is_from t e) (list_all (is_from t) es) all in
        let here : is_below t e ≡ false = from-not_below t e parts.0 in
        rw here refl
