-- One instant of a sweep, and the time between two.
use Rattle.std.specs.Prelude.{◌≡◌, ◌⊎◌, ℕ, suc, ◌+◌, ◌<◌, ◌≤◌, ◌&&◌, nat_lt, nat_le, Bool, true, false, cond, Option, Some, None, List, [], ◌∷◌, ◌++◌, map, filter, refl}
use Rattle.std.specs.List.{list_any}
use Rattle.std.proofs.Common.{inl, inr, sym, ◌∙◌, ap, arith}
use Rattle.std.proofs.lemmas.Bool.Decides.{nat_tests}
use Rattle.std.proofs.lemmas.Bool.{cases_lt, or_parts}
use Rattle.tw_rows.specs.Instant.{inf}
use Rattle.tw_rows.specs.Bag.{SameBag, total}
use Rattle.tw_rows.specs.Event.{alive}
use Rattle.tw_rows.specs.declared.cells.Datum.{Datum}
use Rattle.tw_rows.specs.declared.edge.Edge.{Edge}
use Rattle.tw_rows.proofs.Bags.{total-append, total-map, total-filter, total-flat_map, total_same, total-add, total_zero, SameBag-trans, SameBag-sym, SameBag-map, SameBag-filter}
use Rattle.tw_rows.specs.SameCells.{same_cells}
use Rattle.edge_history.specs.Order.{failing, is_end}
use Rattle.edge_history.specs.History.{CellEvent}
use Rattle.edge_history.specs.Balance.{news_of, news, start_edge, end_edge}
use Rattle.edge_history.proofs.Telling.{is_event, news_none}
use Rattle.tw_rows.specs.SameCells.{same_itself, cells_are_same}
use Rattle.key_nodes.specs.Runs.{Tells, runs}
use Rattle.key_nodes.specs.Groups.{distinct, has_key, IsGroupRow, grouped}
use Rattle.key_nodes.proofs.Bags.{count_distinct, any_by_weight, any_map}
use Rattle.tw_rows.specs.declared.edge.HeldRow.{HeldRow}
use Rattle.sweep_laws.specs.Running.{Run, open_at, has_row, end_part, kept, start_part, begun_at, tells, goes}
use Rattle.edge_history.specs.Opens.{opens, ended_of, started_of, ended_rows, started_rows, bare}
use Rattle.sweep_laws.specs.Grouping.{keys_of, row_of_run, group_at, Swept, EndsTold, StartsTold}
use Rattle.sweep_laws.proofs.RunTells.{stretch, tells_parts, goes_parts}
use Rattle.edge_history.proofs.Opening.{alive_is_open, opens_step, opens_stay, news_part}

-- a row that stays is not told
quiet_tells : (t : ℕ) (o : Option (List Datum)) (x : Option Run) → row_of_run x ≡ o → (tells t o x ≡ []) × (goes t o x ≡ x)
quiet_tells t None None h = (refl, refl)
quiet_tells t None (Some x) h = absurd (cc)
quiet_tells t (Some r) None h = absurd (cc)
quiet_tells t (Some r) (Some x) h =
    let e : same_cells x.row r ≡ true = (let k : x.row ≡ r = cc in ap (λ l. same_cells x.row l) (sym k) ∙ same_itself x.row) in
    (rw e refl, rw e refl)

-- told ends are told
pub ended_twice : (t : ℕ) (o : Option (List Datum)) (x : Option Run) → end_part t o (kept o x) ≡ []
ended_twice t o None = refl
ended_twice t o (Some x) = pick (has_row o x.row) refl
  where
    pick : (b : Bool) → has_row o x.row ≡ b → end_part t o (cond b (Some x) None) ≡ []
    pick true e = rw e refl
    pick false e = refl

pub begun_twice : (t : ℕ) (o : Option (List Datum)) (x : Option Run) → start_part t o (begun_at t o x) ≡ []
begun_twice t o (Some x) = refl
begun_twice t None None = refl
begun_twice t (Some r) None = refl

-- the row of the run that goes on is the row that is there
row_now : (t : ℕ) (o : Option (List Datum)) (x : Option Run) → row_of_run (begun_at t o (kept o x)) ≡ o
row_now t None None = refl
row_now t (Some r) None = refl
row_now t None (Some x) = refl
row_now t (Some r) (Some x) = pick (same_cells x.row r) refl
  where
    pick : (b : Bool) → same_cells x.row r ≡ b → row_of_run (begun_at t (Some r) (cond b (Some x) None)) ≡ Some r
    pick true e = ap Some (cells_are_same x.row r e)
    pick false e = refl

quiet_kept : (t : ℕ) (o : Option (List Datum)) (x : Option Run) → row_of_run x ≡ o → (kept o x ≡ x) × (begun_at t o x ≡ x)
quiet_kept t None None h = (refl, refl)
quiet_kept t None (Some x) h = absurd (cc)
quiet_kept t (Some r) None h = absurd (cc)
quiet_kept t (Some r) (Some x) h =
    let e : same_cells x.row r ≡ true = (let k : x.row ≡ r = cc in ap (λ l. same_cells x.row l) (sym k) ∙ same_itself x.row) in
    (rw e refl, refl)

module _ {K : Type 0} (same : K → K → Bool) (decides : Tells same) where
  -- a sum over keys, where one of them changes
  pub one_key : (g h : K → ℕ) (q : K) (ks : List K) → list_any (same q) ks ≡ true → ((k : K) → same q k ≡ false → h k ≡ g k) →
      total h (distinct same ks) + g q ≡ total g (distinct same ks) + h q
  one_key g h q ks there others =
      let a = total-add h (λ k. cond (same q k) (g q) 0) (distinct same ks) in
      let b = total-add g (λ k. cond (same q k) (h q) 0) (distinct same ks) in
      let e = total_same (λ k. h k + cond (same q k) (g q) 0) (λ k. g k + cond (same q k) (h q) 0) (distinct same ks) (λ k. each k (same q k) refl) in
      let c = count_distinct same decides q (g q) ks ∙ ap (λ b. cond b (g q) 0) there in
      let d = count_distinct same decides q (h q) ks ∙ ap (λ b. cond b (h q) 0) there in
      omega (arith, a, b, e, c, d)
    where
      each : (k : K) (b : Bool) → same q k ≡ b → h k + cond b (g q) 0 ≡ g k + cond b (h q) 0
      each k true e = let x = ap g ((decides q k).0 e) in let y = ap h ((decides q k).0 e) in omega (arith, x, y)
      each k false e = let x = others k e in omega (arith, x)

module _ {K : Type 0} (key : List Datum → K) (same : K → K → Bool) (decides : Tells same)
    (tell : K → List (List Datum) → Option (List Datum)) (is : IsGroupRow key same tell) where
  -- the row of a key at an instant, by the rows after its edges
  pub row_at : (a : List CellEvent) (rows : List HeldRow) (t : ℕ) (k : K) → SameBag rows (opens (suc t) a) →
      group_at tell a k t ≡ tell k (bare rows)
  row_at a rows t k h =
      is.by_rows_of_key k (alive a t) (bare rows)
      (SameBag-filter (has_key key same k) _ _ (SameBag-trans _ _ _ (alive_is_open t a) (SameBag-map (λ r. r.cells) _ _ (SameBag-sym _ _ h))))

  pub grouped_news : (w : Edge → ℕ) (t u : ℕ) (a : List CellEvent) →
      total w (news t u (grouped key same same_cells tell a))
      ≡ total (λ k. total w (news t u (runs same_cells (group_at tell a k) inf))) (distinct same (map (λ e. key e.row) a))
  grouped_news w t u a =
      total-flat_map w (news_of t u) (grouped key same same_cells tell a)
      ∙ (total-flat_map (λ e. total w (news_of t u e)) (λ k. runs same_cells (group_at tell a k) inf) (distinct same (map (λ e. key e.row) a))
      ∙ total_same _ _ (distinct same (map (λ e. key e.row) a)) (λ k. sym (total-flat_map w (news_of t u) (runs same_cells (group_at tell a k) inf))))

  -- between two instants nothing changes
  stays : (w : Edge → ℕ) (a : List CellEvent) (t u : ℕ) (rows : List HeldRow) (run : K → Option Run) → failing is_event a ≡ 0 → t < u → u ≤ inf →
      ((w : Edge → ℕ) → total w (news t u a) ≡ 0) → Swept tell a t rows run → (k : K) → row_of_run (run k) ≡ tell k (bare rows) →
      (total w (news t u (runs same_cells (group_at tell a k) inf)) ≡ 0) × (run k ≡ open_at (group_at tell a k) u)
  stays w a t u rows run valid low high none s k steady =
      let f = group_at tell a k in
      let o = tell k (bare rows) in
      let same_rows : (v : ℕ) → t ≤ v → v < u → f v ≡ o = λ v p q.
      row_at a rows v k (SameBag-trans _ _ _ s.alive_rows (SameBag-sym _ _ (opens_stay t (suc v) a (omega arith) valid
      (λ x. let m = news_part x t (suc v) u a (omega arith) (omega arith) in let z = none x in omega (arith, m, z))))) in
      let st = stretch w f o t u low high same_rows in
      let q = quiet_tells t o (run k) steady in
      let r = s.open_runs k in (
        st.0 ∙ ap (λ x. total w (tells t o x)) (sym r) ∙ ap (total w) q.0,
        sym (st.1 ∙ ap (goes t o) (sym r) ∙ q.1),
      )

  pub sweep_between : (a : List CellEvent) (t u : ℕ) (rows : List HeldRow) (run : K → Option Run) → failing is_event a ≡ 0 → t ≤ u → u ≤ inf →
      ((w : Edge → ℕ) → total w (news t u a) ≡ 0) → Swept tell a t rows run → ((k : K) → row_of_run (run k) ≡ tell k (bare rows)) →
      Swept tell a u rows run × ((w : Edge → ℕ) → total w (news t u (grouped key same same_cells tell a)) ≡ 0)
  sweep_between a t u rows run valid low high none s steady = (
    record {
      alive_rows = SameBag-trans _ _ _ s.alive_rows (SameBag-sym _ _ (opens_stay t u a low valid none));
      open_runs = λ k. at k (cases_lt t u);
    },
    λ w. grouped_news w t u a ∙ (total_same _ (λ k. 0) (distinct same (map (λ e. key e.row) a)) (λ k. none_at w k (cases_lt t u)) ∙ total_zero (distinct same (map (λ e. key e.row) a))),
  )
    where
      at : (k : K) → (t < u) ⊎ (u ≤ t) → run k ≡ open_at (group_at tell a k) u
      at k (inl p) = (stays (λ e. 0) a t u rows run valid p high none s k (steady k)).1
      at k (inr p) = let e : t ≡ u = omega arith in s.open_runs k ∙ ap (open_at (group_at tell a k)) e

      none_at : (w : Edge → ℕ) (k : K) → (t < u) ⊎ (u ≤ t) → total w (news t u (runs same_cells (group_at tell a k) inf)) ≡ 0
      none_at w k (inl p) = (stays w a t u rows run valid p high none s k (steady k)).0
      none_at w k (inr p) = let e : u ≡ t = omega arith in ap (λ n. total w (news t n (runs same_cells (group_at tell a k) inf))) e ∙ ap (total w) (news_none t (runs same_cells (group_at tell a k) inf))

  -- at one instant
  -- the rows of a key that none of the edges has
  rows_of_other : (w : List Datum → ℕ) (now : List Edge) (rows rows2 : List HeldRow) (k : K) →
      ((v : HeldRow → ℕ) → total v rows2 + total v (ended_rows now) ≡ total v rows + total v (started_rows now)) →
      list_any (same k) (keys_of key now) ≡ false →
      total w (filter (has_key key same k) (bare rows2)) ≡ total w (filter (has_key key same k) (bare rows))
  rows_of_other w now rows rows2 k moved none =
      let v : HeldRow → ℕ = λ r. cond (same k (key r.cells)) (w r.cells) 0 in
      let by : (rs : List HeldRow) → total w (filter (has_key key same k) (bare rs)) ≡ total v rs =
      λ rs. total-filter w (has_key key same k) (bare rs) ∙ total-map (λ r. cond (same k (key r)) (w r) 0) (λ r. r.cells) rs in
      let m = moved v in
      let e = no_ended v now none in
      let s = no_started v now none in
      let a = by rows in
      let b = by rows2 in
      omega (arith, m, e, s, a, b)
    where
      end_none : (x : Edge) → same k (key x.cells) ≡ false → total (λ (r : HeldRow). cond (same k (key r.cells)) (w r.cells) 0) (ended_of x) ≡ 0
      end_none x h = pick (is_end x)
        where
          pick : (b : Bool) → total (λ (r : HeldRow). cond (same k (key r.cells)) (w r.cells) 0) (cond b (record { cells = x.cells; start = x.other } ∷ []) []) ≡ 0
          pick true = rw h refl
          pick false = refl

      start_none : (x : Edge) → same k (key x.cells) ≡ false → total (λ (r : HeldRow). cond (same k (key r.cells)) (w r.cells) 0) (started_of x) ≡ 0
      start_none x h = pick (is_end x)
        where
          pick : (b : Bool) → total (λ (r : HeldRow). cond (same k (key r.cells)) (w r.cells) 0) (cond b [] (record { cells = x.cells; start = x.sync } ∷ [])) ≡ 0
          pick true = refl
          pick false = rw h refl

      no_ended : (v : HeldRow → ℕ) (es : List Edge) → list_any (same k) (keys_of key es) ≡ false → total (λ (r : HeldRow). cond (same k (key r.cells)) (w r.cells) 0) (ended_rows es) ≡ 0
      no_ended v [] h = refl
      no_ended v (x ∷ es) h =
          let p = or_parts (same k (key x.cells)) (list_any (same k) (keys_of key es)) h in
          let a = total-append (λ (r : HeldRow). cond (same k (key r.cells)) (w r.cells) 0) (ended_of x) (ended_rows es) in
          let b = end_none x p.0 in
          let c = no_ended v es p.1 in
          omega (arith, a, b, c)

      no_started : (v : HeldRow → ℕ) (es : List Edge) → list_any (same k) (keys_of key es) ≡ false → total (λ (r : HeldRow). cond (same k (key r.cells)) (w r.cells) 0) (started_rows es) ≡ 0
      no_started v [] h = refl
      no_started v (x ∷ es) h =
          let p = or_parts (same k (key x.cells)) (list_any (same k) (keys_of key es)) h in
          let a = total-append (λ (r : HeldRow). cond (same k (key r.cells)) (w r.cells) 0) (started_of x) (started_rows es) in
          let b = start_none x p.0 in
          let c = no_started v es p.1 in
          omega (arith, a, b, c)

  pub rows_untouched : (now : List Edge) (rows rows2 : List HeldRow) (k : K) →
      ((v : HeldRow → ℕ) → total v rows2 + total v (ended_rows now) ≡ total v rows + total v (started_rows now)) →
      list_any (same k) (keys_of key now) ≡ false → SameBag (filter (has_key key same k) (bare rows2)) (filter (has_key key same k) (bare rows))
  rows_untouched now rows rows2 k moved none = record { weigh = λ w. rows_of_other w now rows rows2 k moved none }

  pub untouched : (now : List Edge) (rows rows2 : List HeldRow) (k : K) →
      ((v : HeldRow → ℕ) → total v rows2 + total v (ended_rows now) ≡ total v rows + total v (started_rows now)) →
      list_any (same k) (keys_of key now) ≡ false → tell k (bare rows2) ≡ tell k (bare rows)
  untouched now rows rows2 k moved none =
      is.by_rows_of_key k (bare rows2) (bare rows) (rows_untouched now rows rows2 k moved none)

  -- the keys of the edges of an instant are keys of events
  pub keys_there : (now : List Edge) (t u : ℕ) (a : List CellEvent) (k : K) → SameBag now (news t u a) →
      list_any (same k) (keys_of key now) ≡ true → list_any (same k) (map (λ e. key e.row) a) ≡ true
  keys_there now t u a k h some =
      let W : Edge → ℕ = λ x. cond (same k (key x.cells)) 1 0 in
      let m = h.weigh W in
      let n = total-flat_map W (news_of t u) a in
      let b = twice a in
      any_map (same k) (λ e. key e.row) a
      ∙ more (λ x. same k (key x.cells)) now (λ e. same k (key e.row)) a (sym (any_map (same k) (λ x. key x.cells) now) ∙ some) (omega (arith, m, n, b))
    where
      one : (e : CellEvent) (b : Bool) → same k (key e.row) ≡ b → total (λ (x : Edge). cond (same k (key x.cells)) 1 0) (news_of t u e) ≤ cond b 1 0 + cond b 1 0
      one e b h = parts (nat_le t e.start && nat_lt e.start u) (nat_le t e.end && nat_lt e.end u) b h
        where
          parts : (p q b : Bool) → same k (key e.row) ≡ b →
              total (λ (x : Edge). cond (same k (key x.cells)) 1 0) (cond p (start_edge e ∷ []) [] ++ cond q (end_edge e ∷ []) []) ≤ cond b 1 0 + cond b 1 0
          parts true true b h = rw h (omega arith)
          parts true false b h = rw h (omega arith)
          parts false true b h = rw h (omega arith)
          parts false false b h = omega arith

      twice : (es : List CellEvent) → total (λ e. total (λ (x : Edge). cond (same k (key x.cells)) 1 0) (news_of t u e)) es
          ≤ total (λ (e : CellEvent). cond (same k (key e.row)) 1 0) es + total (λ (e : CellEvent). cond (same k (key e.row)) 1 0) es
      twice [] = omega arith
      twice (e ∷ es) = let a = one e (same k (key e.row)) refl in let b = twice es in omega (arith, a, b)

      more : {X Y : Type 0} (p : X → Bool) (xs : List X) (q : Y → Bool) (ys : List Y) → list_any p xs ≡ true →
          total (λ x. cond (p x) 1 0) xs ≤ total (λ y. cond (q y) 1 0) ys + total (λ y. cond (q y) 1 0) ys → list_any q ys ≡ true
      more p xs q ys some low =
          any_by_weight q ys ∙ above (total (λ x. cond (p x) 1 0) xs) (total (λ y. cond (q y) 1 0) ys) low (sym (any_by_weight p xs) ∙ some)
        where
          above : (m n : ℕ) → m ≤ n + n → nat_lt 0 m ≡ true → nat_lt 0 n ≡ true
          above m n low h = grind (arith, nat_tests)

  -- the rows have moved on, all touched keys were told: the sweep has come to the next instant
  pub sweep_instant : (a : List CellEvent) (t : ℕ) (now : List Edge) (rows rows2 : List HeldRow) (o : K → Option (List Datum)) (run0 run1 run2 : K → Option Run)
      (answer0 answer1 answer2 : List Edge) → failing is_event a ≡ 0 → t < inf →
      SameBag now (news t (suc t) a) → Swept tell a t rows run0 → ((k : K) → row_of_run (run0 k) ≡ tell k (bare rows)) →
      ((v : HeldRow → ℕ) → total v rows2 + total v (ended_rows now) ≡ total v rows + total v (started_rows now)) →
      ((k : K) → o k ≡ tell k (bare rows2)) →
      EndsTold key same t now o run0 run1 answer0 answer1 → StartsTold key same t now o run1 run2 answer1 answer2 →
      Swept tell a (suc t) rows2 run2 × ((k : K) → row_of_run (run2 k) ≡ tell k (bare rows2))
      × ((w : Edge → ℕ) → total w answer2 ≡ total w answer0 + total w (news t (suc t) (grouped key same same_cells tell a)))
  sweep_instant a t now rows rows2 o run0 run1 run2 answer0 answer1 answer2 valid low news_now s steady moved is_o ends starts = (
    record { alive_rows = rows_then; open_runs = λ k. run_then k ∙ sym (told k (λ e. 0)).1 },
    λ k. ap row_of_run (run_is k) ∙ row_now t (o k) (run0 k) ∙ is_o k,
    λ w.
        let x1 = ends.weigh w keys (λ k h. keys_there now t (suc t) a k news_now h) in
        let x2 = starts.weigh w keys (λ k h. keys_there now t (suc t) a k news_now h) in
        let y1 = total_same (λ k. total w (end_part t (o k) (run1 k))) (λ k. 0) (distinct same keys) (λ k. ap (λ x. total w (end_part t (o k) x)) (mid_is k) ∙ ap (total w) (ended_twice t (o k) (run0 k))) ∙ total_zero (distinct same keys) in
        let y2 = total_same (λ k. total w (start_part t (o k) (run2 k))) (λ k. 0) (distinct same keys) (λ k. ap (λ x. total w (start_part t (o k) x)) (run_is k) ∙ ap (total w) (begun_twice t (o k) (kept (o k) (run0 k)))) ∙ total_zero (distinct same keys) in
        let z = grouped_news w t (suc t) a ∙ (total_same _ (λ k. total w (end_part t (o k) (run0 k)) + total w (start_part t (o k) (run1 k))) (distinct same keys)
        (λ k. (told k w).0 ∙ tells_parts w t (o k) (run0 k) ∙ ap (λ x. total w (end_part t (o k) (run0 k)) + total w (start_part t (o k) x)) (sym (mid_is k)))
        ∙ total-add (λ k. total w (end_part t (o k) (run0 k))) (λ k. total w (start_part t (o k) (run1 k))) (distinct same keys)) in
        omega (arith, x1, x2, y1, y2, z),
  )
    where
      keys : List K
      keys = map (λ e. key e.row) a

      rows_then : SameBag rows2 (opens (suc t) a)
      rows_then = record {
        weigh = λ w.
            let m = moved w in
            let x = opens_step w t (suc t) a (omega arith) valid in
            let h = s.alive_rows.weigh w in
            let e1 = total-flat_map w ended_of now ∙ news_now.weigh (λ x. total w (ended_of x)) ∙ sym (total-flat_map w ended_of (news t (suc t) a)) in
            let e2 = total-flat_map w started_of now ∙ news_now.weigh (λ x. total w (started_of x)) ∙ sym (total-flat_map w started_of (news t (suc t) a)) in
            omega (arith, m, x, h, e1, e2);
      }

      -- an untouched key has its row still
      still : (k : K) → list_any (same k) (keys_of key now) ≡ false → row_of_run (run0 k) ≡ o k
      still k h = steady k ∙ (sym (untouched now rows rows2 k moved h) ∙ sym (is_o k))

      mid_is : (k : K) → run1 k ≡ kept (o k) (run0 k)
      mid_is k = pick (list_any (same k) (keys_of key now)) refl
        where
          pick : (b : Bool) → list_any (same k) (keys_of key now) ≡ b → run1 k ≡ kept (o k) (run0 k)
          pick true h = ends.touched k h
          pick false h = ends.others k h ∙ sym (quiet_kept t (o k) (run0 k) (still k h)).0

      run_is : (k : K) → run2 k ≡ begun_at t (o k) (kept (o k) (run0 k))
      run_is k = pick (list_any (same k) (keys_of key now)) refl
        where
          pick : (b : Bool) → list_any (same k) (keys_of key now) ≡ b → run2 k ≡ begun_at t (o k) (kept (o k) (run0 k))
          pick true h = starts.touched k h ∙ ap (begun_at t (o k)) (mid_is k)
          pick false h =
              let q = quiet_kept t (o k) (run0 k) (still k h) in
              starts.others k h ∙ ends.others k h ∙ sym (ap (begun_at t (o k)) q.0 ∙ q.1)

      run_then : (k : K) → run2 k ≡ goes t (o k) (run0 k)
      run_then k = run_is k ∙ sym (goes_parts t (o k) (run0 k))

      told : (k : K) (w : Edge → ℕ) → (total w (news t (suc t) (runs same_cells (group_at tell a k) inf)) ≡ total w (tells t (o k) (run0 k)))
          × (open_at (group_at tell a k) (suc t) ≡ goes t (o k) (run0 k))
      told k w =
          let st = stretch w (group_at tell a k) (o k) t (suc t) (omega arith) (omega arith)
          (λ v p q. (let e : v ≡ t = omega arith in ap (group_at tell a k) e) ∙ row_at a rows2 t k rows_then ∙ sym (is_o k)) in
          let r = s.open_runs k in
          (st.0 ∙ ap (λ x. total w (tells t (o k) x)) (sym r), st.1 ∙ ap (goes t (o k)) (sym r))

-- a group's row depends on the multiset of the rows
pub told_by_bag : {K : Type 0} (key : List Datum → K) (same : K → K → Bool) (tell : K → List (List Datum) → Option (List Datum)) → IsGroupRow key same tell →
    (k : K) (xs ys : List (List Datum)) → SameBag xs ys → tell k xs ≡ tell k ys
told_by_bag key same tell is k xs ys h = is.by_rows_of_key k xs ys (SameBag-filter (has_key key same k) _ _ h)
