-- Columns that store cells, and what is kept of a side, from step to step.
use Rattle.std.specs.Prelude.{◌≡◌, ◌↔◌, ℕ, ◌+◌, ◌<◌, ◌≤◌, ◌&&◌, nat_eq, nat_lt, nat_le, not, Bool, true, false, cond, IsTrue, List, [], ◌∷◌, map, filter, ◌||◌, All, refl}
use Rattle.std.proofs.Common.{sym, ◌∙◌, ap, subst, arith}
use Rattle.std.proofs.lemmas.Bool.{and_parts}
use Rattle.std.proofs.lemmas.Bool.Decides.{nat_tests}
use Rattle.std.proofs.lemmas.List.Elements.{All-head, All-tail}
use Rattle.tw_rows.specs.Bag.{SameBag, total}
use Rattle.tw_rows.specs.Cells.{datum_kind}
use Rattle.tw_rows.specs.Instant.{inf}
use Rattle.tw_rows.specs.declared.cells.Datum.{Datum}
use Rattle.tw_rows.specs.declared.cells.Datum.TheVariants.{Int, Bool as Flag, Text}
use Rattle.tw_rows.specs.declared.edge.Edge.{Edge}
use Rattle.tw_rows.specs.declared.edge.HeldRow.{HeldRow}
use Rattle.tw_rows.specs.declared.kind.CellKind.{CellKind}
use Rattle.tw_rows.specs.declared.kind.CellKind.TheVariants.{Whole, Bit, Place}
use Rattle.tw_rows.proofs.Bags.{total-map, total-filter, total-flat_map, total_zero}
use Rattle.edge_history.specs.Order.{failing, is_real, is_end, is_below, is_from, IsReal}
use Rattle.edge_history.specs.Balance.{is_single, given, start_edge, end_edge}
use Rattle.edge_history.specs.Opens.{singles_of, singles, started_of, started_rows}
use Rattle.edge_history.proofs.Sums.{weaker, sum_eq, failing-both, failing-append}
use Rattle.sweep_laws.specs.Saving.{stores, store_all, starts_of, rows_of, is_row_start, may_wait, HaveBegun}

-- the single edges of an edge that is one, and of an interval
pub one_single : (e : Edge) → is_single e ≡ true → singles_of e ≡ e ∷ []
one_single e h = ap (λ b. cond b (e ∷ []) (start_edge (given e) ∷ end_edge (given e) ∷ [])) h

pub two_singles : (e x y : Edge) → is_single e ≡ false → x ≡ record { sync = e.sync; other = inf; cells = e.cells } → y ≡ record { sync = e.other; other = e.sync; cells = e.cells } →
    (w : Edge → ℕ) → total w (singles_of e) ≡ w x + w y
two_singles e x y h is also w =
    let a = ap (λ b. total w (cond b (e ∷ []) (start_edge (given e) ∷ end_edge (given e) ∷ []))) h in
    let i : is_end e ≡ false = no_end (is_end e) (nat_eq e.other inf) h in
    let s = ap (λ b. w (record { sync = cond b e.other e.sync; other = inf; cells = e.cells })) i in
    let t = ap (λ b. w (record { sync = cond b e.sync e.other; other = cond b e.other e.sync; cells = e.cells })) i in
    let u = ap w is in
    let v = ap w also in
    omega (arith, a, s, t, u, v)
  where
    no_end : (b c : Bool) → (b || c) ≡ false → b ≡ false
    no_end false c h = refl
    no_end true c h = absurd (cc)

-- COLUMNS THAT STORE CELLS
stored_kind : (k : CellKind) (d : Datum) → stores k d ≡ true → datum_kind d ≡ k
stored_kind Whole (Int x) h = refl
stored_kind Whole (Flag b) h = absurd (cc)
stored_kind Whole (Text t) h = absurd (cc)
stored_kind Bit (Int x) h = absurd (cc)
stored_kind Bit (Flag b) h = refl
stored_kind Bit (Text t) h = absurd (cc)
stored_kind Place (Int x) h = absurd (cc)
stored_kind Place (Flag b) h = absurd (cc)
stored_kind Place (Text t) h = refl

own_kind : (d : Datum) → stores (datum_kind d) d ≡ true
own_kind (Int x) = refl
own_kind (Flag b) = refl
own_kind (Text t) = refl

pub both_hold : (a b : Bool) → a ≡ true → b ≡ true → (a && b) ≡ true
both_hold a b h k = rw (h, k) refl

pub stored_kinds : (ks : List CellKind) (ds : List Datum) → store_all ks ds ≡ true → map datum_kind ds ≡ ks
unfolding store_all
stored_kinds [] [] h = refl
stored_kinds [] (d ∷ ds) h = absurd (cc)
stored_kinds (k ∷ ks) [] h = absurd (cc)
stored_kinds (k ∷ ks) (d ∷ ds) h =
    let p = and_parts (stores k d) (store_all ks ds) h in
    let a = stored_kind k d p.0 in
    let b = stored_kinds ks ds p.1 in
    λ i. a i ∷ b i

own_kinds : (ds : List Datum) → store_all (map datum_kind ds) ds ≡ true
unfolding store_all
own_kinds [] = refl
own_kinds (d ∷ ds) = both_hold (stores (datum_kind d) d) (store_all (map datum_kind ds) ds) (own_kind d) (own_kinds ds)

pub kinds_stored : (ks : List CellKind) (ds : List Datum) → map datum_kind ds ≡ ks → store_all ks ds ≡ true
kinds_stored ks ds h = subst (λ l. store_all l ds ≡ true) h (own_kinds ds)

pub same_test : (b c : Bool) → (b ≡ true → c ≡ true) → (c ≡ true → b ≡ true) → b ≡ c
same_test true true h k = refl
same_test true false h k = sym (h refl)
same_test false true h k = k refl
same_test false false h k = refl

pub stored_test : (b : Bool) (ks : List CellKind) (ds : List Datum) → (IsTrue b ↔ (map datum_kind ds ≡ ks)) → b ≡ store_all ks ds
stored_test b ks ds h = same_test b (store_all ks ds) (λ t. kinds_stored ks ds (h.0 t)) (λ t. h.1 (stored_kinds ks ds t))

-- NEW EDGES WAIT
none_of : (b : Bool) → b ≡ true → cond {A = ℕ} b 0 1 ≡ 0
none_of b h = ap (λ c. cond {A = ℕ} c 0 1) h

real_edge : (e : Edge) → IsReal e → is_real e ≡ true
real_edge e r =
    let a = r.instant in
    let b = r.bounded in
    let x : nat_lt e.sync inf ≡ true = grind (arith, nat_tests) in
    let y : nat_le e.other inf ≡ true = grind (arith, nat_tests) in
    both_hold (nat_lt e.sync inf) (nat_le e.other inf && not (nat_eq e.other e.sync)) x (both_hold (nat_le e.other inf) (not (nat_eq e.other e.sync)) y (apart e.other e.sync r.apart))
  where
    apart : (m n : ℕ) → (m ≡ n → ⊥) → not (nat_eq m n) ≡ true
    apart m n d = grind (arith, nat_tests)

may_wait_if : (kinds : List CellKind) (e : Edge) → is_real e ≡ true → is_single e ≡ true → store_all kinds e.cells ≡ true → may_wait kinds 0 e ≡ true
may_wait_if kinds e r s k =
    let f : is_from 0 e ≡ true = grind (arith, nat_tests) in
    both_hold (is_real e) (is_single e && (is_from 0 e && store_all kinds e.cells)) r
    (both_hold (is_single e) (is_from 0 e && store_all kinds e.cells) s (both_hold (is_from 0 e) (store_all kinds e.cells) f k))

begin_real : (e : Edge) (m : ℕ) → e.sync < m → nat_lt e.sync m ≡ true
begin_real e m l = grind (arith, nat_tests)

-- the start and the end of an interval edge
start_part : (e : Edge) → IsReal e → IsReal (record { sync = e.sync; other = inf; cells = e.cells })
start_part e r = record { instant = r.instant; bounded = omega arith; apart = λ h. (let a = r.instant in absurd (omega (arith, a, h))) }

end_part : (e : Edge) → is_single e ≡ false → IsReal e → IsReal (record { sync = e.other; other = e.sync; cells = e.cells }) × (e.sync < e.other)
end_part e s r = go (nat_eq e.other inf) refl (is_end e) refl s
  where
    go : (b : Bool) → nat_eq e.other inf ≡ b → (c : Bool) → is_end e ≡ c → (c || b) ≡ false → IsReal (record { sync = e.other; other = e.sync; cells = e.cells }) × (e.sync < e.other)
    go b i true j k = absurd (cc)
    go true i false j k = absurd (cc)
    go false i false j k =
        let low = r.instant in
        let high = r.bounded in
        let far : e.other < inf = other_below e.other inf i high in
        let up : e.sync < e.other = above e.other e.sync j r.apart in
        (record { instant = far; bounded = omega (arith, low); apart = λ h. absurd (omega (arith, h, up)) }, up)
      where
        other_below : (m n : ℕ) → nat_eq m n ≡ false → m ≤ n → m < n
        other_below m n h l = grind (arith, nat_tests)

        above : (m n : ℕ) → nat_lt m n ≡ false → (m ≡ n → ⊥) → n < m
        above m n h d = grind (arith, nat_tests)

single_start : (e : Edge) → is_single (record { sync = e.sync; other = inf; cells = e.cells }) ≡ true
single_start e = or_same (nat_lt inf e.sync) (nat_eq inf inf) (grind (arith, nat_tests))
  where
    or_same : (a b : Bool) → b ≡ true → (a || b) ≡ true
    or_same true b h = refl
    or_same false b h = h

single_end : (e : Edge) → e.sync < e.other → is_single (record { sync = e.other; other = e.sync; cells = e.cells }) ≡ true
single_end e up = or_first (nat_lt e.sync e.other) (nat_eq e.sync inf) (grind (arith, nat_tests))
  where
    or_first : (a b : Bool) → a ≡ true → (a || b) ≡ true
    or_first true b h = refl
    or_first false b h = absurd (cc)

new_one : (kinds : List CellKind) (e : Edge) → IsReal e → map datum_kind e.cells ≡ kinds → failing (may_wait kinds 0) (singles_of e) ≡ 0
new_one kinds e r k = go (is_single e) refl
  where
    stored : store_all kinds e.cells ≡ true
    stored = kinds_stored kinds e.cells k

    w : Edge → ℕ
    w x = cond (may_wait kinds 0 x) 0 1

    go : (b : Bool) → is_single e ≡ b → failing (may_wait kinds 0) (singles_of e) ≡ 0
    go true s =
        let a = ap (total (λ x. cond {A = ℕ} (may_wait kinds 0 x) 0 1)) (one_single e s) in
        let z = none_of (may_wait kinds 0 e) (may_wait_if kinds e (real_edge e r) s stored) in
        omega (arith, a, z)
    go false s =
        let x : Edge = record { sync = e.sync; other = inf; cells = e.cells } in
        let y : Edge = record { sync = e.other; other = e.sync; cells = e.cells } in
        let ep = end_part e s r in
        let a = two_singles e x y s refl refl (λ z. cond {A = ℕ} (may_wait kinds 0 z) 0 1) in
        let zx = none_of (may_wait kinds 0 x) (may_wait_if kinds x (real_edge x (start_part e r)) (single_start e) stored) in
        let zy = none_of (may_wait kinds 0 y) (may_wait_if kinds y (real_edge y ep.0) (single_end e ep.1) stored) in
        omega (arith, a, zx, zy)

pub new_wait : (kinds : List CellKind) (es : List Edge) → All IsReal es → All (λ e. map datum_kind e.cells ≡ kinds) es → failing (may_wait kinds 0) (singles es) ≡ 0
new_wait kinds [] r k = refl
new_wait kinds (e ∷ es) r k =
    failing-append (may_wait kinds 0) (singles_of e) (singles es)
    (new_one kinds e (All-head IsReal e es r) (All-head (λ (x : Edge). map datum_kind x.cells ≡ kinds) e es k))
    (new_wait kinds es (All-tail IsReal e es r) (All-tail (λ (x : Edge). map datum_kind x.cells ≡ kinds) e es k))

-- A STEP OF A SIDE
four : (a b c d : Bool) → (a && (b && (c && d))) ≡ true → (a ≡ true) × (b ≡ true) × (c ≡ true) × (d ≡ true)
four true true true true h = (refl, refl, refl, refl)
four true true true false h = absurd (cc)
four true true false d h = absurd (cc)
four true false c d h = absurd (cc)
four false b c d h = absurd (cc)

three : (a b c : Bool) → (a && (b && c)) ≡ true → (a ≡ true) × (b ≡ true) × (c ≡ true)
three true true true h = (refl, refl, refl)
three true true false h = absurd (cc)
three true false c h = absurd (cc)
three false b c h = absurd (cc)

module _ (kinds : List CellKind) where
  pub wait_parts : (from : ℕ) (e : Edge) → may_wait kinds from e ≡ true → (is_real e ≡ true) × (is_single e ≡ true) × (is_from from e ≡ true) × (store_all kinds e.cells ≡ true)
  wait_parts from e h = four (is_real e) (is_single e) (is_from from e) (store_all kinds e.cells) h

  pub start_parts : (to : ℕ) (e : Edge) → is_row_start kinds to e ≡ true → (nat_eq e.other inf ≡ true) × (nat_lt e.sync to ≡ true) × (store_all kinds e.cells ≡ true)
  start_parts to e h = three (nat_eq e.other inf) (nat_lt e.sync to) (store_all kinds e.cells) h

  wait_any : (from : ℕ) (e : Edge) → may_wait kinds from e ≡ true → may_wait kinds 0 e ≡ true
  wait_any from e h = let p = wait_parts from e h in may_wait_if kinds e p.0 p.1 p.3

  wait_from : (from : ℕ) (e : Edge) → (may_wait kinds 0 e && is_from from e) ≡ true → may_wait kinds from e ≡ true
  wait_from from e h =
      let q = and_parts (may_wait kinds 0 e) (is_from from e) h in
      let p = wait_parts 0 e q.0 in
      both_hold (is_real e) (is_single e && (is_from from e && store_all kinds e.cells)) p.0
      (both_hold (is_single e) (is_from from e && store_all kinds e.cells) p.1 (both_hold (is_from from e) (store_all kinds e.cells) q.1 p.3))

  row_start_if : (to : ℕ) (e : Edge) → nat_eq e.other inf ≡ true → nat_lt e.sync to ≡ true → store_all kinds e.cells ≡ true → is_row_start kinds to e ≡ true
  row_start_if to e a b c =
      both_hold (nat_eq e.other inf) (nat_lt e.sync to && store_all kinds e.cells) a (both_hold (nat_lt e.sync to) (store_all kinds e.cells) b c)

  -- the start of the row that a due edge starts
  abbrev pub part : ℕ → HeldRow → ℕ
  part to r = cond (is_row_start kinds to (record { sync = r.start; other = inf; cells = r.cells })) 0 1

  same_inf : nat_eq inf inf ≡ true
  same_inf = grind (arith, nat_tests)

  later_row : (c d : ℕ) (r : HeldRow) → c ≤ d → is_row_start kinds c (record { sync = r.start; other = inf; cells = r.cells }) ≡ true → is_row_start kinds d (record { sync = r.start; other = inf; cells = r.cells }) ≡ true
  later_row c d r low h =
      let p = start_parts c (record { sync = r.start; other = inf; cells = r.cells }) h in
      row_start_if d (record { sync = r.start; other = inf; cells = r.cells }) p.0 (later r.start p.1) p.2
    where
      later : (s : ℕ) → nat_lt s c ≡ true → nat_lt s d ≡ true
      later s k = grind (arith, nat_tests)

  due_row : (d : ℕ) (x : Edge) → (may_wait kinds 0 x && is_below d x) ≡ true → total (part d) (started_of x) ≡ 0
  due_row d x h = go (is_end x)
    where
      q : (may_wait kinds 0 x ≡ true) × (is_below d x ≡ true)
      q = and_parts (may_wait kinds 0 x) (is_below d x) h

      p : (is_real x ≡ true) × (is_single x ≡ true) × (is_from 0 x ≡ true) × (store_all kinds x.cells ≡ true)
      p = wait_parts 0 x q.0

      here : part d (record { cells = x.cells; start = x.sync }) ≡ 0
      here = none_of (is_row_start kinds d (record { sync = x.sync; other = inf; cells = x.cells })) (row_start_if d (record { sync = x.sync; other = inf; cells = x.cells }) same_inf q.1 p.3)

      go : (b : Bool) → total (part d) (cond b [] (record { cells = x.cells; start = x.sync } ∷ [])) ≡ 0
      go true = refl
      go false = let z = here in omega (arith, z)

  pub started_weigh : (to : ℕ) (rows : List HeldRow) → failing (is_row_start kinds to) (starts_of rows) ≡ total (part to) rows
  started_weigh to rows = total-map (λ (e : Edge). cond {A = ℕ} (is_row_start kinds to e) 0 1) (λ (r : HeldRow). record { sync = r.start; other = inf; cells = r.cells }) rows

  pub begun_later : (c d : ℕ) (rows : List HeldRow) → c ≤ d → HaveBegun kinds c rows → HaveBegun kinds d rows
  begun_later c d rows low started =
      started_weigh d rows ∙ (sum_eq (λ r. is_row_start kinds c (record { sync = r.start; other = inf; cells = r.cells })) (part d) (λ r. 0) rows
      (λ r k. none_of (is_row_start kinds d (record { sync = r.start; other = inf; cells = r.cells })) (later_row c d r low k)) (sym (started_weigh c rows) ∙ started) ∙ total_zero rows)

  -- rows among others, and with more
  pub begun_fewer : (to : ℕ) (rows rows2 : List HeldRow) → ((w : HeldRow → ℕ) → total w rows2 ≤ total w rows) → HaveBegun kinds to rows → HaveBegun kinds to rows2
  begun_fewer to rows rows2 fewer h =
      let f = fewer (part to) in
      let a = started_weigh to rows in
      let b = started_weigh to rows2 in
      omega (arith, f, a, b, h)

  pub begun_more : (to : ℕ) (rows more rows2 : List HeldRow) → ((w : HeldRow → ℕ) → total w rows2 ≤ total w rows + total w more) → HaveBegun kinds to rows → HaveBegun kinds to more → HaveBegun kinds to rows2
  begun_more to rows more rows2 fewer h k =
      let f = fewer (part to) in
      let a = started_weigh to rows in
      let b = started_weigh to more in
      let c = started_weigh to rows2 in
      omega (arith, f, a, b, c, h, k)

  -- the rows that due edges start
  pub due_begun : (d : ℕ) (due : List Edge) → failing (may_wait kinds 0) due ≡ 0 → failing (is_below d) due ≡ 0 → HaveBegun kinds d (started_rows due)
  due_begun d due dues below =
      started_weigh d (started_rows due) ∙ (total-flat_map (part d) started_of due
      ∙ (sum_eq (λ x. may_wait kinds 0 x && is_below d x) (λ x. total (part d) (started_of x)) (λ x. 0) due (due_row d)
      (failing-both (may_wait kinds 0) (is_below d) due dues below) ∙ total_zero due))

  -- a row that is one of those that began, from another time on
  pub begun_from : (to t : ℕ) (p : HeldRow → Bool) (rows ys : List HeldRow) (x : HeldRow) (cells : List Datum) → t < to → filter p rows ≡ x ∷ ys → cells ≡ x.cells → HaveBegun kinds to rows →
      part to (record { cells = cells; start = t }) ≡ 0
  begun_from to t p rows ys x cells low found same h =
      let f = total-filter (part to) p rows in
      let l = total_less (part to) p rows in
      let a = started_weigh to rows in
      let b = ap (total (part to)) found in
      let here : is_row_start kinds to (record { sync = x.start; other = inf; cells = x.cells }) ≡ true = passed (is_row_start kinds to (record { sync = x.start; other = inf; cells = x.cells })) (omega (arith, f, l, a, b, h)) in
      let q = start_parts to (record { sync = x.start; other = inf; cells = x.cells }) here in
      none_of (is_row_start kinds to (record { sync = t; other = inf; cells = cells }))
      (row_start_if to (record { sync = t; other = inf; cells = cells }) same_inf (begin_real (record { sync = t; other = inf; cells = cells }) to low) (ap (store_all kinds) same ∙ q.2))
    where
      passed : (b : Bool) → cond {A = ℕ} b 0 1 ≡ 0 → b ≡ true
      passed true h = refl
      passed false h = absurd (omega (arith, h))

      total_less : (w : HeldRow → ℕ) (p : HeldRow → Bool) (xs : List HeldRow) → total (λ x. cond (p x) (w x) 0) xs ≤ total w xs
      total_less w p [] = omega arith
      total_less w p (y ∷ xs) = let r = total_less w p xs in let o = one (p y) (w y) in omega (arith, r, o)
        where
          one : (b : Bool) (n : ℕ) → cond b n 0 ≤ n
          one true n = omega arith
          one false n = omega arith

  -- edges that waited or come all wait or are due
  module _ (c d : ℕ) (waiting put rest new due : List Edge) (later : failing (may_wait kinds c) waiting ≡ 0) (real : All IsReal new) (cells : All (λ e. map datum_kind e.cells ≡ kinds) new)
      (puts : (w : Edge → ℕ) → total w put ≡ total w waiting + total w (singles new)) (parts : (w : Edge → ℕ) → total w due + total w rest ≡ total w put) where
    pub due_wait : failing (may_wait kinds 0) due ≡ 0
    due_wait =
        let w1 = weaker (may_wait kinds c) (may_wait kinds 0) waiting (wait_any c) later in
        let w2 = new_wait kinds new real cells in
        let w3 = puts (λ e. cond (may_wait kinds 0 e) 0 1) in
        let w4 = parts (λ e. cond (may_wait kinds 0 e) 0 1) in
        omega (arith, w1, w2, w3, w4)

    pub rest_wait : failing (is_from d) rest ≡ 0 → failing (may_wait kinds d) rest ≡ 0
    rest_wait from =
        let w1 = weaker (may_wait kinds c) (may_wait kinds 0) waiting (wait_any c) later in
        let w2 = new_wait kinds new real cells in
        let w3 = puts (λ e. cond (may_wait kinds 0 e) 0 1) in
        let w4 = parts (λ e. cond (may_wait kinds 0 e) 0 1) in
        weaker (λ e. may_wait kinds 0 e && is_from d e) (may_wait kinds d) rest (wait_from d) (failing-both (may_wait kinds 0) (is_from d) rest (omega (arith, w1, w2, w3, w4)) from)

    -- and the rows: those that there were, and those that due edges start
    pub rows_stepped : (rows rows2 : List HeldRow) → c ≤ d → HaveBegun kinds c rows → failing (is_below d) due ≡ 0 → ((w : HeldRow → ℕ) → total w rows2 ≤ total w rows + total w (started_rows due)) → HaveBegun kinds d rows2
    rows_stepped rows rows2 low started below fewer = begun_more d rows (started_rows due) rows2 fewer (begun_later c d rows low started) (due_begun d due due_wait below)

  -- rows that edges start
  pub rows_started : (to : ℕ) (rows : List HeldRow) (edges : List Edge) → SameBag rows (rows_of edges) → failing (is_row_start kinds to) edges ≡ 0 → failing (is_row_start kinds to) (starts_of rows) ≡ 0
  rows_started to rows edges same all =
      started_weigh to rows ∙ (same.weigh (part to) ∙ (total-map (part to) (λ (e : Edge). record { cells = e.cells; start = e.sync }) edges
      ∙ (sum_eq (is_row_start kinds to) (λ e. part to (record { cells = e.cells; start = e.sync })) (λ e. 0) edges
      (λ e k. (let p = start_parts to e k in none_of (is_row_start kinds to (record { sync = e.sync; other = inf; cells = e.cells })) (row_start_if to (record { sync = e.sync; other = inf; cells = e.cells }) same_inf p.1 p.2)))
      all ∙ total_zero edges)))

pub rows_of_starts : (rows : List HeldRow) → rows_of (starts_of rows) ≡ rows
rows_of_starts [] = refl
rows_of_starts (r ∷ rows) = ap (λ l. r ∷ l) (rows_of_starts rows)
