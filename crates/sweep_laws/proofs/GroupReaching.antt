-- A group from instant to instant, and a whole step of it.
use Rattle.std.specs.Prelude.{◌≡◌, ◌⊎◌, ℕ, suc, ◌+◌, ◌*◌, ◌<◌, ◌≤◌, Bool, true, false, Option, List, [], ◌++◌, take, drop, refl}
use Rattle.std.specs.List.{list_any}
use Rattle.std.proofs.Common.{inl, inr, sym, ◌∙◌, ap, subst, arith}
use Rattle.std.proofs.lemmas.Bool.{cases_lt}
use Rattle.tw_rows.specs.Instant.{inf}
use Rattle.tw_rows.specs.Bag.{SameBag, total}
use Rattle.tw_rows.specs.Event.{alive, AreEvents, cut}
use Rattle.tw_rows.specs.SameCells.{same_cells}
use Rattle.tw_rows.specs.declared.cells.Datum.{Datum}
use Rattle.tw_rows.specs.declared.edge.Edge.{Edge}
use Rattle.tw_rows.specs.declared.edge.HeldRow.{HeldRow}
use Rattle.tw_rows.proofs.Bags.{SameBag-trans, SameBag-sym, SameBag-map, SameBag-filter}
use Rattle.tw_rows.proofs.Lives.{alive_known}
use Rattle.edge_history.specs.Order.{failing, is_from, is_below, Rises, IsHistory}
use Rattle.edge_history.specs.History.{CellEvent, of}
use Rattle.edge_history.specs.Balance.{news}
use Rattle.edge_history.specs.Opens.{singles, opens, ended_rows, started_rows, bare}
use Rattle.edge_history.proofs.Telling.{is_event, news_none, told_same, told_more}
use Rattle.edge_history.proofs.Retaining.{events_of_are, valid_from, AreEvents-from, AreEvents-none_fails}
use Rattle.edge_history.proofs.Opening.{alive_is_open, opens_stay, opens_known, news_part, rows_after, ends_there}
use Rattle.edge_history.proofs.Waiting.{pending_then, known_then}
use Rattle.key_nodes.specs.Runs.{Tells as KeyTells}
use Rattle.key_nodes.specs.Groups.{has_key, IsGroupRow, grouped}
use Rattle.key_nodes.proofs.RunSteps.{runs_same}
use Rattle.key_nodes.proofs.Grouping.{grouped_known, grouped_valid}
use Rattle.sweep_laws.specs.Sweeps.{is_at, IsPast, StartsAt, IsDue, InOrder, Tells}
use Rattle.sweep_laws.specs.Running.{Run, last_run}
use Rattle.sweep_laws.specs.Grouping.{keys_of, group_at, EndsTold, StartsTold, IsEarly, DependsOnKey, GroupSweeping, IsDefined, IsFirstUndefined, GroupReached, GroupKeeps}
use Rattle.sweep_laws.proofs.Ordering.{order_later}
use Rattle.sweep_laws.proofs.RunOrder.{open_early}
use Rattle.sweep_laws.proofs.Sides.{starts_between, starts_from, side_now, side_none, side_rest, tells_parts, tells_still}
use Rattle.sweep_laws.proofs.GroupSweeps.{sweep_between, sweep_instant, rows_untouched, told_by_bag}
use Rattle.sweep_laws.proofs.Joins.{due_then}

module _ {K : Type 0} (key : List Datum → K) (same : K → K → Bool) (decides : KeyTells same)
    (tell : K → List (List Datum) → Option (List Datum)) (is_row : IsGroupRow key same tell)
    (bad : K → List (List Datum) → Bool) (by_key : DependsOnKey key same bad) where
  pub bad_same : (k : K) (xs ys : List (List Datum)) → SameBag xs ys → bad k xs ≡ bad k ys
  bad_same k xs ys h = by_key k xs ys (SameBag-filter (has_key key same k) xs ys h)

  alive_then : (a : List CellEvent) (t : ℕ) (rows : List HeldRow) → SameBag rows (opens (suc t) a) → SameBag (alive a t) (bare rows)
  alive_then a t rows h = SameBag-trans _ _ _ (alive_is_open t a) (SameBag-map (λ r. r.cells) _ _ (SameBag-sym _ _ h))

  alive_between : (a : List CellEvent) (u t v : ℕ) (rows : List HeldRow) → failing is_event a ≡ 0 → u ≤ v → v < t → ((w : Edge → ℕ) → total w (news u t a) ≡ 0) →
      SameBag rows (opens u a) → SameBag (alive a v) (bare rows)
  alive_between a u t v rows valid low high none h =
      alive_then a v rows (SameBag-trans _ _ _ h (SameBag-sym _ _ (opens_stay u (suc v) a (omega arith) valid
      (λ x. let m = news_part x u (suc v) t a (omega arith) (omega arith) in let z = none x in omega (arith, m, z)))))

  -- up to a time before which nothing happens
  pub group_waits : (a : List CellEvent) (u t : ℕ) (rows : List HeldRow) (run : K → Option Run) → AreEvents a → u ≤ t → t ≤ inf →
      ((w : Edge → ℕ) → total w (news u t a) ≡ 0) → GroupSweeping tell bad a u rows run →
      GroupSweeping tell bad a t rows run × ((w : Edge → ℕ) → total w (news u t (grouped key same same_cells tell a)) ≡ 0) × IsDefined bad a u t
  group_waits a u t rows run lives low high none s =
      let valid = AreEvents-none_fails a lives in
      let b = sweep_between key same decides tell is_row a u t rows run valid low high none s.swept s.steady in (
        record { swept = b.0; steady = s.steady; fine = s.fine },
        b.1,
        λ k v p q. bad_same k (alive a v) (bare rows) (alive_between a u t v rows valid p q none s.swept.alive_rows) ∙ s.fine k,
      )

  -- one instant
  pub group_instant : (a : List CellEvent) (t : ℕ) (now : List Edge) (rows rows2 : List HeldRow) (o : K → Option (List Datum))
      (run0 run1 run2 : K → Option Run) (answer0 answer1 answer2 : List Edge) → t < inf → AreEvents a → SameBag now (news t (suc t) a) →
      GroupSweeping tell bad a t rows run0 →
      (((w : HeldRow → ℕ) → total w (ended_rows now) ≤ total w rows) → (w : HeldRow → ℕ) → total w rows2 + total w (ended_rows now) ≡ total w rows + total w (started_rows now)) →
      ((k : K) → o k ≡ tell k (bare rows2)) → ((k : K) → list_any (same k) (keys_of key now) ≡ true → bad k (bare rows2) ≡ false) →
      EndsTold key same t now o run0 run1 answer0 answer1 → StartsTold key same t now o run1 run2 answer1 answer2 →
      (((k : K) → IsEarly t (run0 k)) → InOrder (2 * t) answer0 → InOrder (2 * t) answer1) → (t < inf → InOrder (suc (2 * t)) answer1 → InOrder (suc (2 * t)) answer2) →
      GroupSweeping tell bad a (suc t) rows2 run2 × Tells (grouped key same same_cells tell a) t (suc t) answer0 answer2
  group_instant a t now rows rows2 o run0 run1 run2 answer0 answer1 answer2 low lives is s moved is_o good ends starts up1 up2 =
      let valid = AreEvents-none_fails a lives in
      let m = moved (ends_there a t now rows valid is s.swept.alive_rows) in
      let g = sweep_instant key same decides tell is_row a t now rows rows2 o run0 run1 run2 answer0 answer1 answer2
      valid low is s.swept s.steady m is_o ends starts in (
        record { swept = g.0; steady = g.1; fine = λ k. fine_at m k (list_any (same k) (keys_of key now)) refl },
        record {
          weigh = g.2;
          order = λ up. order_later (suc (2 * t)) (2 * suc t) answer2 (omega arith)
              (up2 low (order_later (2 * t) (suc (2 * t)) answer1 (omega arith) (up1 (λ k. subst (IsEarly t) (sym (s.swept.open_runs k)) (open_early (group_at tell a k) t)) up)));
        },
      )
    where
      fine_at : ((w : HeldRow → ℕ) → total w rows2 + total w (ended_rows now) ≡ total w rows + total w (started_rows now)) →
          (k : K) (b : Bool) → list_any (same k) (keys_of key now) ≡ b → bad k (bare rows2) ≡ false
      fine_at m k true e = good k e
      fine_at m k false e = by_key k (bare rows2) (bare rows) (rows_untouched key same decides tell is_row now rows rows2 k m e) ∙ s.fine k

  -- a group that is undefined after the edges of the instant is undefined at it
  pub group_instant_undefined : (a : List CellEvent) (t : ℕ) (now : List Edge) (rows rows2 : List HeldRow) (run0 : K → Option Run) →
      AreEvents a → SameBag now (news t (suc t) a) → GroupSweeping tell bad a t rows run0 →
      (((w : HeldRow → ℕ) → total w (ended_rows now) ≤ total w rows) → (w : HeldRow → ℕ) → total w rows2 + total w (ended_rows now) ≡ total w rows + total w (started_rows now)) →
      ((k : K) × (bad k (bare rows2) ≡ true)) → IsFirstUndefined bad a t (suc t) t
  group_instant_undefined a t now rows rows2 run0 lives is s moved found =
      let valid = AreEvents-none_fails a lives in
      let m = moved (ends_there a t now rows valid is s.swept.alive_rows) in
      let r = rows_after a t now rows rows2 valid is s.swept.alive_rows m in
      record {
        low = omega arith;
        high = omega arith;
        found = (found.0, bad_same found.0 (alive a t) (bare rows2) (alive_then a t rows2 r) ∙ found.1);
        first = λ k v p q. absurd (omega (arith, p, q));
      }

  -- from instant to instant
  pub group_reach_start : (a : List CellEvent) (from to : ℕ) (due : List Edge) (rows : List HeldRow) (run : K → Option Run) (answer : List Edge) →
      IsDue a from to due → GroupSweeping tell bad a from rows run → GroupReached key same tell bad a from from to due rows run answer answer
  group_reach_start a from to due rows run answer d s = record {
    low = omega arith;
    left = d;
    now = s;
    told = record { weigh = λ w. let z = ap (total w) (news_none from (grouped key same same_cells tell a)) in omega (arith, z); order = λ up. up };
    defined = λ k v p q. absurd (omega (arith, p, q));
  }

  defined_parts : (a : List CellEvent) (from t to : ℕ) → IsDefined bad a from t → IsDefined bad a t to → IsDefined bad a from to
  defined_parts a from t to h g k v p q = pick (cases_lt v t)
    where
      pick : (v < t) ⊎ (t ≤ v) → bad k (alive a v) ≡ false
      pick (inl x) = h k v p x
      pick (inr x) = g k v x q

  defined_at : (a : List CellEvent) (t : ℕ) (rows : List HeldRow) (run : K → Option Run) → GroupSweeping tell bad a (suc t) rows run → IsDefined bad a t (suc t)
  defined_at a t rows run s k v p q =
      let e : v ≡ t = omega (arith, p, q) in
      ap (λ n. bad k (alive a n)) e ∙ bad_same k (alive a t) (bare rows) (alive_then a t rows s.swept.alive_rows) ∙ s.fine k

  module _ (a : List CellEvent) (from u t to n : ℕ) (rest : List Edge) (rows : List HeldRow) (run : K → Option Run) (answer0 answer1 : List Edge)
      (r : GroupReached key same tell bad a from u to rest rows run answer0 answer1) (head : StartsAt t rest)
      (at : failing (is_at t) (take n rest) ≡ 0) (past : IsPast t (drop n rest)) where
    times : (u ≤ t) × (t < to)
    times = starts_between a u t to rest r.left head

    none : (w : Edge → ℕ) → total w (news u t a) ≡ 0
    none = side_none a u t to n rest r.left times.0 times.1 (starts_from t rest head) at past

    instant_is : SameBag (take n rest) (news t (suc t) a)
    instant_is = side_now a u t to n rest r.left times.0 times.1 (starts_from t rest head) at past

    low_instant : t < inf
    low_instant = let z = r.left.high in let y = times in omega (arith, z, y)

    waited : GroupSweeping tell bad a t rows run × ((w : Edge → ℕ) → total w (news u t (grouped key same same_cells tell a)) ≡ 0) × IsDefined bad a u t
    waited = group_waits a u t rows run r.left.lives times.0 (let y = low_instant in omega (arith, y)) none r.now

    pub group_reach_step : (rows2 : List HeldRow) (run2 : K → Option Run) (answer2 : List Edge) →
        (t < inf → AreEvents a → SameBag (take n rest) (news t (suc t) a) → GroupSweeping tell bad a t rows run →
        GroupSweeping tell bad a (suc t) rows2 run2 × Tells (grouped key same same_cells tell a) t (suc t) answer1 answer2) →
        GroupReached key same tell bad a from (suc t) to (drop n rest) rows2 run2 answer0 answer2
    group_reach_step rows2 run2 answer2 step =
        let l = r.low in
        let y = times in
        let s = step low_instant r.left.lives instant_is waited.0 in
        record {
          low = omega (arith, l, y);
          left = side_rest a u t to n rest r.left times.0 times.1 (starts_from t rest head) at past;
          now = s.0;
          told = tells_parts (grouped key same same_cells tell a) from t (suc t) answer0 answer1 answer2 (omega (arith, l, y)) (omega arith)
              (tells_parts (grouped key same same_cells tell a) from u t answer0 answer1 answer1 l y.0 r.told (tells_still (grouped key same same_cells tell a) u t answer1 y.0 waited.1)) s.1;
          defined = defined_parts a from t (suc t) (defined_parts a from u t r.defined waited.2) (defined_at a t rows2 run2 s.0);
        }

    pub group_reach_undefined :
        (t < inf → AreEvents a → SameBag (take n rest) (news t (suc t) a) → GroupSweeping tell bad a t rows run → IsFirstUndefined bad a t (suc t) t) →
        IsFirstUndefined bad a from to t
    group_reach_undefined step =
        let l = r.low in
        let y = times in
        record {
          low = omega (arith, l, y);
          high = y.1;
          found = (step low_instant r.left.lives instant_is waited.0).found;
          first = defined_parts a from u t r.defined waited.2;
        }

  -- all is done
  pub group_reach_end : (a : List CellEvent) (from u to : ℕ) (rest : List Edge) (rows : List HeldRow) (run : K → Option Run) (answer0 answer1 : List Edge) → rest ≡ [] →
      GroupReached key same tell bad a from u to rest rows run answer0 answer1 →
      GroupSweeping tell bad a to rows run × Tells (grouped key same same_cells tell a) from to answer0 answer1 × IsDefined bad a from to
  group_reach_end a from u to rest rows run answer0 answer1 e h =
      let w = group_waits a u to rows run h.left.lives h.left.low h.left.high (λ w. sym (h.left.news_of.weigh w) ∙ ap (total w) e) h.now in (
        w.0,
        tells_parts (grouped key same same_cells tell a) from u to answer0 answer1 answer1 h.low h.left.low h.told (tells_still (grouped key same same_cells tell a) u to answer1 h.left.low w.1),
        defined_parts a from u to h.defined w.2,
      )

  -- what is known below a time is enough
  sweeping_known : (c : ℕ) (a b : List CellEvent) (rows : List HeldRow) (run : K → Option Run) → c ≤ inf → SameBag (cut c a) (cut c b) →
      GroupSweeping tell bad a c rows run → GroupSweeping tell bad b c rows run
  sweeping_known c a b rows run high h s = record {
    swept = record {
      alive_rows = SameBag-trans _ _ _ s.swept.alive_rows (opens_known c a b high h);
      open_runs = λ k. s.swept.open_runs k
          ∙ ap (last_run c) (runs_same same_cells (group_at tell a k) (group_at tell b k) c (λ u low. told_by_bag key same tell is_row k (alive a u) (alive b u) (alive_known c u a b low high h)));
    };
    steady = s.steady;
    fine = s.fine;
  }

  defined_known : (c d : ℕ) (a b : List CellEvent) → d ≤ inf → SameBag (cut d a) (cut d b) → IsDefined bad a c d → IsDefined bad b c d
  defined_known c d a b high h k q v p r = sym (bad_same q (alive a v) (alive b v) (alive_known d v a b r high h)) ∙ k q v p r

  groups_known : (c : ℕ) (a b : List CellEvent) → c ≤ inf → AreEvents a → AreEvents b → SameBag (cut c a) (cut c b) →
      SameBag (cut c (grouped key same same_cells tell a)) (cut c (grouped key same same_cells tell b))
  groups_known c a b high va vb h =
      (grouped_known key same same_cells tell decides is_row c a b (record { low = high; left_valid = va; right_valid = vb; same = h })).same

  -- a whole step
  module _ (came new waiting put due rest : List Edge) (c d : ℕ) (low : c ≤ d) (high : d ≤ inf) (whole : IsHistory (came ++ new)) (from : failing (is_from c) new ≡ 0)
      (puts : (w : Edge → ℕ) → total w put ≡ total w waiting + total w (singles new)) (takes : (w : Edge → ℕ) → total w due + total w rest ≡ total w put)
      (due_below : failing (is_below d) due ≡ 0) (rest_from : failing (is_from d) rest ≡ 0) (up : Rises 0 due)
      (rows : List HeldRow) (run : K → Option Run) (out : List Edge) (k : GroupKeeps key same tell bad rows run waiting c came out) where
    parts : (w : Edge → ℕ) → total w due + total w rest ≡ total w waiting + total w (singles new)
    parts w = takes w ∙ puts w

    lives_of : (h : List Edge) → IsHistory h → AreEvents (of h)
    lives_of h i = AreEvents-from (of h) (valid_from h (of h) i.real (events_of_are h i))

    known : SameBag (cut c (of came)) (cut c (of (came ++ new)))
    known = known_then came new waiting due rest c d low high whole from k.waits parts due_below rest_from k.history

    due_now : IsDue (of (came ++ new)) c d due
    due_now = due_then came new waiting due rest c d low high whole from k.waits parts due_below rest_from up

    starts : GroupSweeping tell bad (of (came ++ new)) c rows run
    starts = sweeping_known c (of came) (of (came ++ new)) rows run (omega (arith, low, high)) known k.now

    before : IsDefined bad (of (came ++ new)) 0 c
    before = defined_known 0 c (of came) (of (came ++ new)) (omega (arith, low, high)) known k.defined

    pub group_step : (rows2 : List HeldRow) (run2 : K → Option Run) (answer0 answer : List Edge) → answer0 ≡ [] →
        (IsDue (of (came ++ new)) c d due → GroupSweeping tell bad (of (came ++ new)) c rows run →
        GroupSweeping tell bad (of (came ++ new)) d rows2 run2 × Tells (grouped key same same_cells tell (of (came ++ new))) c d answer0 answer × IsDefined bad (of (came ++ new)) c d) →
        GroupKeeps key same tell bad rows2 run2 rest d (came ++ new) (out ++ answer)
    group_step rows2 run2 answer0 answer empty swept =
        let a = of (came ++ new) in
        let s = swept due_now starts in
        let told = subst (λ l. Tells (grouped key same same_cells tell a) c d l answer) empty s.1 in
        record {
          history = whole;
          waits = pending_then came new waiting due rest c d low high whole from k.waits parts due_below rest_from;
          now = s.0;
          told = told_more c d out answer (grouped key same same_cells tell a) low high (AreEvents-none_fails (grouped key same same_cells tell a) (grouped_valid key same same_cells tell a))
              (told_same c out (grouped key same same_cells tell (of came)) (grouped key same same_cells tell a)
              (groups_known c (of came) a (omega (arith, low, high)) (lives_of came k.history) (lives_of (came ++ new) whole) known) k.told)
              (told.order (record { rises = tt; below = refl })).rises (record { weigh = λ w. let z = told.weigh w in omega (arith, z) });
          defined = defined_parts a 0 c d before s.2;
        }

    -- the least instant of all at which a group is undefined
    pub group_step_undefined : (t : ℕ) →
        (IsDue (of (came ++ new)) c d due → GroupSweeping tell bad (of (came ++ new)) c rows run → IsFirstUndefined bad (of (came ++ new)) c d t) →
        IsFirstUndefined bad (of (came ++ new)) 0 d t
    group_step_undefined t cause =
        let f = cause due_now starts in
        record { low = omega arith; high = f.high; found = f.found; first = defined_parts (of (came ++ new)) 0 c t before f.first }
