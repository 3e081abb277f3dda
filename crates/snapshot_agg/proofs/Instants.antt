-- An instant of rows that are kept with their ends, and instants one after the other.
use Rattle.std.specs.Prelude.{◌≡◌, ℕ, zero, suc, ◌+◌, ◌*◌, ◌-◌, ◌^◌, min, ◌<◌, ◌≤◌, ◌⊎◌, ◌||◌, nat_eq, nat_lt, nat_le, not, Bool, true, false, cond, Option, Some, List, [], ◌∷◌, ◌++◌, length, drop, refl}
use Rattle.std.proofs.Common.{inl, inr, sym, ◌∙◌, ap, subst, arith}
use Rattle.std.proofs.lemmas.Bool.{cases_lt}
use Rattle.std.proofs.lemmas.Bool.Decides.{nat_tests}
use Rattle.std.proofs.lemmas.List.{append_assoc}
use Rattle.tw_rows.specs.Bag.{SameBag, total}
use Rattle.tw_rows.specs.Event.{alive}
use Rattle.tw_rows.specs.Instant.{inf}
use Rattle.tw_rows.specs.SameCells.{same_cells}
use Rattle.tw_rows.specs.declared.cells.Datum.{Datum}
use Rattle.tw_rows.specs.declared.edge.Edge.{Edge}
use Rattle.tw_rows.specs.declared.edge.HeldRow.{HeldRow}
use Rattle.tw_rows.specs.declared.kind.CellKind.{CellKind}
use Rattle.tw_rows.proofs.Bags.{total-append}
use Rattle.edge_history.specs.History.{CellEvent}
use Rattle.edge_history.specs.Balance.{news, given, start_edge, end_edge}
use Rattle.edge_history.specs.Order.{failing, many, is_end, is_from, is_below, rank, Rises}
use Rattle.edge_history.specs.Opens.{is_start, singles, singles_of, ended_of, started_of, ended_rows, started_rows}
use Rattle.edge_history.proofs.Sums.{weaker}
use Rattle.end_queue.specs.Pending.{Pending}
use Rattle.plan_model.specs.declared.agg.Agg.{Agg}
use Rattle.sweep_laws.specs.Running.{Run}
use Rattle.sweep_laws.specs.Sweeps.{is_at, IsPast, StartsAt, IsDue}
use Rattle.sweep_laws.specs.Grouping.{GroupSweeping, GroupReached, IsDefined}
use Rattle.sweep_laws.proofs.GroupReaching.{group_reach_start, group_reach_step, group_reach_undefined, group_reach_end}
use Rattle.key_nodes.specs.Groups.{grouped}
use Rattle.sweep_laws.proofs.Sides.{tells_parts}
use Rattle.plan_laws.specs.Undefined.{first_below, or_next}
use Rattle.sweep_laws.specs.Saving.{may_wait}
use Rattle.sweep_laws.proofs.Stored.{two_singles, wait_parts}
use Rattle.sweep_sides.specs.Sides.{IsSide}
use Rattle.sweep_sides.specs.Waiting.{queued}
use Rattle.snapshot_agg.specs.Answering.{group_kinds, is_stored, IsSoFar}
use Rattle.snapshot_agg.specs.KeptRows.{RowsAndEnds}
use Rattle.snapshot_agg.specs.Living.{AreEnded, AreBegun, AreLate, AreLived, AreRefused, AreTold, to_come}
use Rattle.snapshot_agg.specs.Waiting.{all_pending}
use Rattle.snapshot_agg.specs.Words.{key_data, tell, bad}
use Rattle.snapshot_agg.proofs.Answering.{first_passes, so_far_later}
use Rattle.snapshot_agg.proofs.Beginning.{flat_both, come_total}
use Rattle.snapshot_agg.proofs.Lists.{whole_items}
use Rattle.snapshot_agg.proofs.PuttingOff.{from_test, below_later}
use Rattle.snapshot_agg.proofs.Queueing.{pending_edges}
use Rattle.snapshot_agg.proofs.Sweeping.{Moved, InstantTold, InstantUndefined}
use Rattle.snapshot_agg.proofs.Totaling.{keys_tell, tell_is_group, bad_by_key}

-- WHAT COMES WHEN
not_less : (m n : ℕ) → nat_lt m n ≡ false → n ≤ m
not_less m n h = grind (arith, nat_tests)

pub at_sync : (t : ℕ) (e : Edge) → is_at t e ≡ true → e.sync ≡ t
at_sync t e h = grind (arith, nat_tests)

le_test : (c s : ℕ) → c ≤ s → nat_le c s ≡ true
le_test c s h = grind (arith, nat_tests)

lt_test : (s c : ℕ) → s < c → nat_lt s c ≡ true
lt_test s c h = grind (arith, nat_tests)

pub at_late : (from t : ℕ) (es : List Edge) → from ≤ t → failing (is_at t) es ≡ 0 → AreLate from es
at_late from t es low h = weaker (is_at t) (is_from from) es (λ e k. let z = at_sync t e k in le_test from e.sync (omega (arith, z, low))) h

pub at_below : (t : ℕ) (es : List Edge) → failing (is_at t) es ≡ 0 → failing (is_below (suc t)) es ≡ 0
at_below t es h = weaker (is_at t) (is_below (suc t)) es (λ e k. let z = at_sync t e k in lt_test e.sync (suc t) (omega (arith, z))) h

le_of : (c s : ℕ) → nat_le c s ≡ true → c ≤ s
le_of c s h = grind (arith, nat_tests)

pub later_late : (from u : ℕ) (es : List Edge) → from ≤ u → AreLate u es → AreLate from es
later_late from u es low h = weaker (is_from u) (is_from from) es (λ e k. let z = le_of u e.sync k in le_test from e.sync (omega (arith, z, low))) h

-- none of those that come later comes at the time
apart_at : (t s : ℕ) → suc t ≤ s → cond {A = ℕ} (nat_eq s t) 1 0 ≡ 0
apart_at t s h = grind (arith, nat_tests)

pub late_none : (t : ℕ) (es : List Edge) → AreLate (suc t) es → many (is_at t) es ≡ 0
late_none t [] h = refl
late_none t (e ∷ es) h =
    let low = le_of (suc t) e.sync (first_passes (is_from (suc t) e) (failing (is_from (suc t)) es) h) in
    let z = apart_at t e.sync low in
    let r = late_none t es (omega (arith, h)) in
    omega (arith, z, r)

pub late_past : (t : ℕ) (es : List Edge) → AreLate (suc t) es → IsPast t es
late_past t [] h = tt
late_past t (e ∷ es) h = λ is. let low = le_of (suc t) e.sync (first_passes (is_from (suc t) e) (failing (is_from (suc t)) es) h) in absurd (omega (arith, low, is))

-- some of them comes at the time, and so does the first
pub starts_of_some : (t : ℕ) (es more : List Edge) → failing (is_at t) es ≡ 0 → 1 ≤ many (is_at t) es → StartsAt t (es ++ more)
starts_of_some t [] more h some = absurd (omega (arith, some))
starts_of_some t (e ∷ es) more h some = at_sync t e (first_passes (is_at t e) (failing (is_at t) es) h)

-- the single edges of edges in order come at the time or later
one_late : (t : ℕ) (e : Edge) → t ≤ e.sync → total (λ x. cond {A = ℕ} (is_from t x) 0 1) (singles_of e) ≡ 0
one_late t e low = pick (is_end e || nat_eq e.other inf) refl
  where
    f : Edge → ℕ
    f x = cond (is_from t x) 0 1

    no_end : (a b : Bool) → (a || b) ≡ false → a ≡ false
    no_end false b h = refl
    no_end true b h = absurd (cc)

    pick : (b : Bool) → (is_end e || nat_eq e.other inf) ≡ b → total (λ x. cond {A = ℕ} (is_from t x) 0 1) (singles_of e) ≡ 0
    pick true h =
        let a = ap (λ b. total (λ x. cond {A = ℕ} (is_from t x) 0 1) (cond b (e ∷ []) (start_edge (given e) ∷ end_edge (given e) ∷ []))) h in
        let z = from_test t e.sync low in
        omega (arith, a, z)
    pick false h =
        let i : is_end e ≡ false = no_end (is_end e) (nat_eq e.other inf) h in
        let le = not_less e.other e.sync i in
        let a = two_singles e (record { sync = e.sync; other = inf; cells = e.cells }) (record { sync = e.other; other = e.sync; cells = e.cells }) h refl refl (λ x. cond {A = ℕ} (is_from t x) 0 1) in
        let y = from_test t e.sync low in
        let z = from_test t e.other (omega (arith, low, le)) in
        omega (arith, a, y, z)

pub singles_late : (t : ℕ) (es : List Edge) → Rises (2 * t) es → AreLate t (singles es)
singles_late t [] up = refl
singles_late t (e ∷ es) up =
    let f : Edge → ℕ = λ x. cond (is_from t x) 0 1 in
    let a = total-append f (singles_of e) (singles es) in
    let b = at_most (is_end e) in
    let u = up.0 in
    let o = one_late t e (omega (arith, u, b)) in
    let r = singles_late t es (lower es up.1) in
    omega (arith, a, o, r)
  where
    at_most : (b : Bool) → cond {A = ℕ} b 0 1 ≤ 1
    at_most true = omega arith
    at_most false = omega arith

    lower : (xs : List Edge) → Rises (rank e) xs → Rises (2 * t) xs
    lower [] k = tt
    lower (x ∷ xs) k = (let a = up.0 in let b = k.0 in omega (arith, a, b), k.1)

pub rises_past : (t : ℕ) (es : List Edge) → Rises (suc (2 * t)) es → IsPast t es → Rises (2 * suc t) es
rises_past t [] up past = tt
rises_past t (e ∷ es) up past = (pick (cases_lt t e.sync), up.1)
  where
    at_most : (b : Bool) → cond {A = ℕ} b 0 1 ≤ 1
    at_most true = omega arith
    at_most false = omega arith

    equal : (s : ℕ) → s ≤ t → suc (2 * t) ≤ 2 * s + 1 → s ≡ t
    equal s low high = grind arith

    pick : (t < e.sync) ⊎ (e.sync ≤ t) → 2 * suc t ≤ rank e
    pick (inl h) = omega (arith, h)
    pick (inr h) = absurd (past (equal e.sync h (let a = up.0 in let b = at_most (is_end e) in omega (arith, a, b))))

pub lower_rises : (r s : ℕ) (es : List Edge) → r ≤ s → Rises s es → Rises r es
lower_rises r s [] low up = tt
lower_rises r s (e ∷ es) low up = (let a = up.0 in omega (arith, a, low), up.1)

pub come_late : (t : ℕ) (ends : List Edge) (waiting : List Pending) (edges : List Edge) → AreLate t ends → AreLate t (queued waiting) → AreLate t (singles edges) → AreLate t (to_come ends waiting edges)
come_late t ends waiting edges a b c =
    let z = come_total (λ x. cond {A = ℕ} (is_from t x) 0 1) ends waiting edges in
    omega (arith, a, b, c, z)

pub ends_late : (begun : List Edge) (t : ℕ) (rows0 rows1 : List HeldRow) (come0 ends1 edges : List Edge) (waiting : List Pending) → AreBegun begun t rows0 rows1 come0 (to_come ends1 waiting edges) → AreLate t come0 → AreLate t ends1
ends_late begun t rows0 rows1 come0 ends1 edges waiting b late =
    let f : Edge → ℕ = λ x. cond (is_from t x) 0 1 in
    let p = b.parts f in
    let z = come_total f ends1 waiting edges in
    omega (arith, p, z, late)

-- ONE INSTANT
all_ends : (w : HeldRow → ℕ) (es : List Edge) → failing is_end es ≡ 0 → total w (started_rows es) ≡ 0
all_ends w [] h = refl
all_ends w (e ∷ es) h =
    let a = total-append w (started_of e) (started_rows es) in
    let z = ap (λ b. total w (cond b [] (record { cells = e.cells; start = e.sync } ∷ []))) (first_passes (is_end e) (failing is_end es) h) in
    let r = all_ends w es (omega (arith, h)) in
    omega (arith, a, z, r)

not_true : (b : Bool) → not b ≡ true → b ≡ false
not_true false h = refl
not_true true h = absurd (cc)

all_starts : (w : HeldRow → ℕ) (es : List Edge) → failing is_start es ≡ 0 → total w (ended_rows es) ≡ 0
all_starts w [] h = refl
all_starts w (e ∷ es) h =
    let a = total-append w (ended_of e) (ended_rows es) in
    let z = ap (λ b. total w (cond b (record { cells = e.cells; start = e.other } ∷ []) [])) (not_true (is_end e) (first_passes (is_start e) (failing is_start es) h)) in
    let r = all_starts w es (omega (arith, h)) in
    omega (arith, a, z, r)

starts_rise : (r t : ℕ) (es : List Edge) → r ≤ suc (2 * t) → failing (is_at t) es ≡ 0 → failing is_start es ≡ 0 → Rises r es
starts_rise r t [] low at h = tt
starts_rise r t (e ∷ es) low at h =
    let s = at_sync t e (first_passes (is_at t e) (failing (is_at t) es) at) in
    let z = ap (λ b. cond {A = ℕ} b 0 1) (not_true (is_end e) (first_passes (is_start e) (failing is_start es) h)) in
    (omega (arith, low, s, z), starts_rise (rank e) t es (omega (arith, s, z)) (omega (arith, at)) (omega (arith, h)))

ends_rise : (r t : ℕ) (es more : List Edge) → r ≤ 2 * t → failing (is_at t) es ≡ 0 → failing is_end es ≡ 0 → failing (is_at t) more ≡ 0 → failing is_start more ≡ 0 → Rises r (es ++ more)
ends_rise r t [] more low at h at2 h2 = starts_rise r t more (omega (arith, low)) at2 h2
ends_rise r t (e ∷ es) more low at h at2 h2 =
    let s = at_sync t e (first_passes (is_at t e) (failing (is_at t) es) at) in
    let z = ap (λ b. cond {A = ℕ} b 0 1) (first_passes (is_end e) (failing is_end es) h) in
    (omega (arith, low, s, z), ends_rise (rank e) t es more (omega (arith, s, z)) (omega (arith, at)) (omega (arith, h)) at2 h2)

drop_whole : (xs ys : List Edge) → drop (length xs) (xs ++ ys) ≡ ys
drop_whole [] ys = refl
drop_whole (x ∷ xs) ys = drop_whole xs ys

append_none : (xs : List Edge) → xs ++ [] ≡ xs
append_none [] = refl
append_none (x ∷ xs) = ap (λ l. x ∷ l) (append_none xs)

module _ (gone begun : List Edge) (t : ℕ) (rows0 : List HeldRow) (r1 r2 : RowsAndEnds) (come0 edges : List Edge) (waiting : List Pending)
    (b : AreBegun begun t rows0 r1.held come0 (to_come r1.ends waiting edges)) (g : AreEnded gone t r1 r2) where
  now : List Edge
  now = gone ++ begun

  pub now_at : failing (is_at t) (gone ++ begun) ≡ 0
  now_at =
      let a = total-append (λ x. cond {A = ℕ} (is_at t x) 0 1) gone begun in
      let p = g.at in
      let q = b.at in
      omega (arith, a, p, q)

  pub now_rises : Rises 0 (gone ++ begun)
  now_rises = ends_rise 0 t gone begun (omega arith) g.at g.ends b.at b.starts

  pub now_parts : (w : Edge → ℕ) → total w (gone ++ begun) + total w (to_come r2.ends waiting edges) ≡ total w come0
  now_parts w =
      let a = total-append w gone begun in
      let p = b.parts w in
      let c = come_total w r1.ends waiting edges in
      let d = come_total w r2.ends waiting edges in
      let e = ap (total w) g.first ∙ total-append w gone r2.ends in
      omega (arith, a, p, c, d, e)

  pub now_moved : Moved (gone ++ begun) rows0 r2.held
  now_moved fit w =
      let a = flat_both w ended_of gone begun in
      let c = flat_both w started_of gone begun in
      let d = all_ends w gone g.ends in
      let e = all_starts w begun b.starts in
      let p = b.rows w in
      let q = g.rows w in
      omega (arith, a, c, d, e, p, q)

  now_fewer : (w : HeldRow → ℕ) → total w r2.held ≤ total w rows0 + total w (started_rows (gone ++ begun))
  now_fewer w =
      let c = flat_both w started_of gone begun in
      let p = b.rows w in
      let q = g.rows w in
      omega (arith, c, p, q)

  module _ (some : 1 ≤ many (is_at t) come0) (after : AreLate (suc t) (to_come r2.ends waiting edges)) where
    now_starts : (more : List Edge) → StartsAt t ((gone ++ begun) ++ more)
    now_starts more =
        let p = now_parts (λ x. cond {A = ℕ} (is_at t x) 1 0) in
        let z = late_none t (to_come r2.ends waiting edges) after in
        starts_of_some t (gone ++ begun) more now_at (omega (arith, some, p, z))

    module _ (key : List ℕ) (aggs : List Agg) (from : ℕ) (low : from ≤ t) (run0 : List Datum → Option Run) where
      pub now_lived : (run1 : List Datum → Option Run) (answer0 answer1 : List Edge) → InstantTold t (gone ++ begun) rows0 r2.held run0 run1 answer0 answer1 key aggs →
          ((left : List CellKind) (lo to : ℕ) → lo ≤ t → t < to → to ≤ inf → failing (is_stored left) (gone ++ begun) ≡ 0 →
          IsSoFar (group_kinds key aggs left) lo t to run0 answer0 → IsSoFar (group_kinds key aggs left) lo (suc t) to run1 answer1) →
          AreLived key aggs rows0 r2.held run0 run1 come0 (to_come r2.ends waiting edges) from (suc t) answer0 answer1 (gone ++ begun)
      now_lived run1 answer0 answer1 told so_far = record {
        rises = omega (arith, low);
        parts = now_parts;
        late = at_late from t (gone ++ begun) low now_at;
        below = at_below t (gone ++ begun) now_at;
        order = now_rises;
        reached = λ a to more late due s.
            let n = length (gone ++ begun) in
            let whole = whole_items n (gone ++ begun) more refl in
            let behind = drop_whole (gone ++ begun) more in
            let r = group_reach_start (key_data key) same_cells keys_tell (tell key aggs) (tell_is_group key aggs) (bad key aggs) (bad_by_key key aggs) a from to ((gone ++ begun) ++ more) rows0 run0 answer0 due s in
            subst (λ l. GroupReached (key_data key) same_cells (tell key aggs) (bad key aggs) a from (suc t) to l r2.held run1 answer0 answer1) behind
            (group_reach_step (key_data key) same_cells keys_tell (tell key aggs) (tell_is_group key aggs) (bad key aggs) (bad_by_key key aggs)
            a from from t to n ((gone ++ begun) ++ more) rows0 run0 answer0 answer0 r (now_starts more)
            (subst (λ l. failing (is_at t) l ≡ 0) (sym whole) now_at) (subst (IsPast t) (sym behind) (late_past t more late)) r2.held run1 answer1
            (λ early lives same y. told a early lives (subst (λ l. SameBag l (news t (suc t) a)) whole same) y));
        so_far = λ left lo to under high within stored s.
            so_far left lo to (omega (arith, under, low)) (omega (arith, high)) within stored (so_far_later (group_kinds key aggs left) lo from t to run0 answer0 low s);
        fewer = now_fewer;
      }

      pub now_refused : InstantUndefined t (gone ++ begun) rows0 run0 key aggs → AreRefused key aggs rows0 run0 come0 (to_come r2.ends waiting edges) from (suc t) t (gone ++ begun)
      now_refused undefined = record {
        rises = omega (arith, low);
        parts = now_parts;
        late = at_late from t (gone ++ begun) low now_at;
        below = at_below t (gone ++ begun) now_at;
        after = after;
        order = now_rises;
        undefined = λ a to due s.
            let n = length (gone ++ begun) in
            let whole = whole_items n (gone ++ begun) [] refl in
            let behind = drop_whole (gone ++ begun) [] in
            let due2 = subst (IsDue a from to) (sym (append_none (gone ++ begun))) due in
            let r = group_reach_start (key_data key) same_cells keys_tell (tell key aggs) (tell_is_group key aggs) (bad key aggs) (bad_by_key key aggs) a from to ((gone ++ begun) ++ []) rows0 run0 [] due2 s in
            group_reach_undefined (key_data key) same_cells keys_tell (tell key aggs) (tell_is_group key aggs) (bad key aggs) (bad_by_key key aggs)
            a from from t to n ((gone ++ begun) ++ []) rows0 run0 [] [] r (now_starts [])
            (subst (λ l. failing (is_at t) l ≡ 0) (sym whole) now_at) (subst (IsPast t) (sym behind) tt)
            (λ early lives same y. undefined a early lives (subst (λ l. SameBag l (news t (suc t) a)) whole same) y);
      }

-- ONE INSTANT AFTER THE OTHER
module _ (key : List ℕ) (aggs : List Agg) where
  pub lived_none : (rows : List HeldRow) (run : List Datum → Option Run) (come : List Edge) (from : ℕ) (answer : List Edge) → AreLived key aggs rows rows run run come come from from answer answer []
  lived_none rows run come from answer = record {
    rises = omega arith;
    parts = λ w. omega arith;
    late = refl;
    below = refl;
    order = tt;
    reached = λ a to more late due s.
        group_reach_start (key_data key) same_cells keys_tell (tell key aggs) (tell_is_group key aggs) (bad key aggs) (bad_by_key key aggs) a from to more rows run answer due s;
    so_far = λ left lo to under high within stored s. s;
    fewer = λ w. omega arith;
  }

  both_rise : (r u : ℕ) (xs ys : List Edge) → r ≤ 2 * u → Rises r xs → failing (is_below u) xs ≡ 0 → Rises 0 ys → AreLate u ys → Rises r (xs ++ ys)
  both_rise r u [] [] low up below rise late = tt
  both_rise r u [] (y ∷ ys) low up below rise late =
      let s = le_of u y.sync (first_passes (is_from u y) (failing (is_from u) ys) late) in
      (omega (arith, low, s), rise.1)
  both_rise r u (x ∷ xs) ys low up below rise late =
      let s = lt_of x.sync u (first_passes (is_below u x) (failing (is_below u) xs) below) in
      let b = at_most (is_end x) in
      (up.0, both_rise (rank x) u xs ys (omega (arith, s, b)) up.1 (omega (arith, below)) rise late)
    where
      at_most : (b : Bool) → cond {A = ℕ} b 0 1 ≤ 1
      at_most true = omega arith
      at_most false = omega arith

      lt_of : (m n : ℕ) → nat_lt m n ≡ true → m < n
      lt_of m n h = grind (arith, nat_tests)

  late_both : (u : ℕ) (xs ys : List Edge) → AreLate u xs → AreLate u ys → AreLate u (xs ++ ys)
  late_both u xs ys h k = let a = total-append (λ x. cond {A = ℕ} (is_from u x) 0 1) xs ys in omega (arith, a, h, k)

  still_defined : (a : List CellEvent) (from u v : ℕ) → IsDefined (bad key aggs) a from u → IsDefined (bad key aggs) a u v → IsDefined (bad key aggs) a from v
  still_defined a from u v h g k w p q = pick (cases_lt w u)
    where
      pick : (w < u) ⊎ (u ≤ w) → bad key aggs k (alive a w) ≡ false
      pick (inl x) = h k w p x
      pick (inr x) = g k w x q

  module _ (rows0 rows1 : List HeldRow) (run0 run1 : List Datum → Option Run) (come0 come1 : List Edge) (from u : ℕ) (answer0 answer1 due1 : List Edge)
      (x : AreLived key aggs rows0 rows1 run0 run1 come0 come1 from u answer0 answer1 due1) where
    first_reached : (a : List CellEvent) (to : ℕ) (due2 : List Edge) → AreLate u due2 → IsDue a from to (due1 ++ due2) → GroupSweeping (tell key aggs) (bad key aggs) a from rows0 run0 →
        GroupReached (key_data key) same_cells (tell key aggs) (bad key aggs) a from u to due2 rows1 run1 answer0 answer1
    first_reached a to due2 late due s = x.reached a to due2 late due s

    pub lived_more : (rows2 : List HeldRow) (run2 : List Datum → Option Run) (come2 : List Edge) (v : ℕ) (answer2 due2 : List Edge) →
        AreLived key aggs rows1 rows2 run1 run2 come1 come2 u v answer1 answer2 due2 → AreLived key aggs rows0 rows2 run0 run2 come0 come2 from v answer0 answer2 (due1 ++ due2)
    lived_more rows2 run2 come2 v answer2 due2 y = record {
      rises = let a = x.rises in let b = y.rises in omega (arith, a, b);
      parts = λ w.
          let a = total-append w due1 due2 in
          let p = x.parts w in
          let q = y.parts w in
          omega (arith, a, p, q);
      late = late_both from due1 due2 x.late (later_late from u due2 x.rises y.late);
      below =
          let a = total-append (λ e. cond {A = ℕ} (is_below v e) 0 1) due1 due2 in
          let p = below_later u v due1 y.rises x.below in
          let q = y.below in
          omega (arith, a, p, q);
      order = both_rise 0 u due1 due2 (omega arith) x.order x.below y.order y.late;
      reached = λ a to more late due s.
          let r = x.reached a to (due2 ++ more) (late_both u due2 more y.late (later_late u v more y.rises late)) (subst (IsDue a from to) (append_assoc due1 due2 more) due) s in
          let t = y.reached a to more late r.left r.now in
          record {
            low = let p = x.rises in let q = y.rises in omega (arith, p, q);
            left = t.left;
            now = t.now;
            told = tells_parts (grouped (key_data key) same_cells same_cells (tell key aggs) a) from u v answer0 answer1 answer2 x.rises y.rises r.told t.told;
            defined = still_defined a from u v r.defined t.defined;
          };
      so_far = λ left lo to under high within stored s.
          let f = total-append (λ e. cond {A = ℕ} (is_stored left e) 0 1) due1 due2 in
          let p = x.rises in
          let q = y.rises in
          y.so_far left lo to (omega (arith, under, p)) high within (omega (arith, f, stored))
          (x.so_far left lo to under (omega (arith, q, high)) within (omega (arith, f, stored)) s);
      fewer = λ w.
          let a = flat_both w started_of due1 due2 in
          let p = x.fewer w in
          let q = y.fewer w in
          omega (arith, a, p, q);
    }

    pub refused_more : (come2 : List Edge) (d t : ℕ) (due2 : List Edge) → AreRefused key aggs rows1 run1 come1 come2 u d t due2 → AreRefused key aggs rows0 run0 come0 come2 from d t (due1 ++ due2)
    refused_more come2 d t due2 y = record {
      rises = let a = x.rises in let b = y.rises in omega (arith, a, b);
      parts = λ w.
          let a = total-append w due1 due2 in
          let p = x.parts w in
          let q = y.parts w in
          omega (arith, a, p, q);
      late = late_both from due1 due2 x.late (later_late from u due2 x.rises y.late);
      below =
          let a = total-append (λ e. cond {A = ℕ} (is_below d e) 0 1) due1 due2 in
          let b = y.rises in
          let p = below_later u d due1 b x.below in
          let q = y.below in
          omega (arith, a, p, q);
      after = y.after;
      order = both_rise 0 u due1 due2 (omega arith) x.order x.below y.order y.late;
      undefined = λ a to due s.
          let r = first_reached a to due2 y.late due s in
          let f = y.undefined a to r.left r.now in
          record {
            low = let p = x.rises in let q = f.low in omega (arith, p, q);
            high = f.high;
            found = f.found;
            first = still_defined a from u t r.defined f.first;
          };
    }

-- THE NEXT INSTANT
one_at : (t : ℕ) (e : Edge) → e.sync ≡ t → cond {A = ℕ} (is_at t e) 1 0 ≡ 1
one_at t e h = grind (arith, nat_tests)

single_at : (t : ℕ) (e : Edge) → e.sync ≡ t → 1 ≤ many (is_at t) (singles_of e)
single_at t e at = pick (is_end e || nat_eq e.other inf) refl
  where
    pick : (b : Bool) → (is_end e || nat_eq e.other inf) ≡ b → 1 ≤ total (λ x. cond {A = ℕ} (is_at t x) 1 0) (singles_of e)
    pick true h =
        let a = ap (λ b. total (λ x. cond {A = ℕ} (is_at t x) 1 0) (cond b (e ∷ []) (start_edge (given e) ∷ end_edge (given e) ∷ []))) h in
        let z = one_at t e at in
        omega (arith, a, z)
    pick false h =
        let x : Edge = record { sync = e.sync; other = inf; cells = e.cells } in
        let a = two_singles e x (record { sync = e.other; other = e.sync; cells = e.cells }) h refl refl (λ x. cond {A = ℕ} (is_at t x) 1 0) in
        let z = one_at t x at in
        omega (arith, a, z)

pub some_at : (t : ℕ) (ends : List Edge) (waiting : List Pending) (edges : List Edge) → StartsAt t ends ⊎ StartsAt t edges → 1 ≤ many (is_at t) (to_come ends waiting edges)
some_at t ends waiting edges found =
    let z = come_total (λ x. cond {A = ℕ} (is_at t x) 1 0) ends waiting edges in
    let m = pick found in
    omega (arith, z, m)
  where
    first : (xs : List Edge) → StartsAt t xs → 1 ≤ many (is_at t) xs
    first [] h = absurd h
    first (e ∷ xs) h = let z = one_at t e h in omega (arith, z)

    next : (xs : List Edge) → StartsAt t xs → 1 ≤ many (is_at t) (singles xs)
    next [] h = absurd h
    next (e ∷ xs) h =
        let a = total-append (λ x. cond {A = ℕ} (is_at t x) 1 0) (singles_of e) (singles xs) in
        let z = single_at t e h in
        omega (arith, a, z)

    pick : StartsAt t ends ⊎ StartsAt t edges → 1 ≤ many (is_at t) ends + many (is_at t) (singles edges)
    pick (inl h) = let z = first ends h in omega (arith, z)
    pick (inr h) = let z = next edges h in omega (arith, z)

pub none_queued : (n : ℕ) (ps : List Pending) → n ≡ min (length ps) (2 ^ 64 - 1) → n ≡ 0 → ps ≡ []
none_queued n [] is none = refl
none_queued n (p ∷ ps) is none = absurd (omega (arith, is, none))

-- ALL TOGETHER
module _ (key : List ℕ) (aggs : List Agg) (rows0 rows1 : List HeldRow) (run0 run1 : List Datum → Option Run) (come0 come1 : List Edge) (from u to : ℕ) (answer0 answer1 due1 : List Edge)
    (x : AreLived key aggs rows0 rows1 run0 run1 come0 come1 from u answer0 answer1 due1) (high : u ≤ to) where
  -- nothing else happens before the other time
  pub told_whole : AreLate to come1 → AreTold key aggs rows0 rows1 run0 run1 come0 come1 from to answer0 answer1 due1
  told_whole after = record {
    parts = x.parts;
    below = below_later u to due1 high x.below;
    after = after;
    order = λ late. x.order;
    swept = λ late a v due s.
        let r = x.reached a v [] refl (subst (IsDue a from v) (sym (append_none due1)) due) s in
        group_reach_end (key_data key) same_cells keys_tell (tell key aggs) (tell_is_group key aggs) (bad key aggs) (bad_by_key key aggs) a from u v [] rows1 run1 answer0 answer1 refl r;
    so_far = λ left lo under within stored s. so_far_later (group_kinds key aggs left) lo u to to run1 answer1 high (x.so_far left lo to under high within stored s);
    fewer = x.fewer;
  }

  -- the rest is told in the other way
  pub told_more : (rows2 : List HeldRow) (run2 : List Datum → Option Run) (come2 answer2 due2 : List Edge) → (AreLate from come0 → AreLate u come1) →
      AreTold key aggs rows1 rows2 run1 run2 come1 come2 u to answer1 answer2 due2 → AreTold key aggs rows0 rows2 run0 run2 come0 come2 from to answer0 answer2 (due1 ++ due2)
  told_more rows2 run2 come2 answer2 due2 still y = record {
    parts = λ w.
        let a = total-append w due1 due2 in
        let p = x.parts w in
        let q = y.parts w in
        omega (arith, a, p, q);
    below =
        let a = total-append (λ e. cond {A = ℕ} (is_below to e) 0 1) due1 due2 in
        let p = below_later u to due1 high x.below in
        let q = y.below in
        omega (arith, a, p, q);
    after = y.after;
    order = λ late. both_rise key aggs 0 u due1 due2 (omega arith) x.order x.below (y.order (still late)) (due_late (still late));
    swept = λ late a v due s.
        let r = x.reached a v due2 (due_late (still late)) due s in
        let t = y.swept (still late) a v r.left r.now in (
          t.0,
          tells_parts (grouped (key_data key) same_cells same_cells (tell key aggs) a) from u v answer0 answer1 answer2 x.rises r.left.low r.told t.1,
          still_defined key aggs a from u v r.defined t.2,
        );
    so_far = λ left lo under within stored s.
        let f = total-append (λ e. cond {A = ℕ} (is_stored left e) 0 1) due1 due2 in
        let p = x.rises in
        y.so_far left lo (omega (arith, under, p)) within (omega (arith, f, stored)) (x.so_far left lo to under high within (omega (arith, f, stored)) s);
    fewer = λ w.
        let a = flat_both w started_of due1 due2 in
        let p = x.fewer w in
        let q = y.fewer w in
        omega (arith, a, p, q);
  }
    where
      due_late : AreLate u come1 → AreLate u due2
      due_late h = let p = y.parts (λ e. cond {A = ℕ} (is_from u e) 0 1) in omega (arith, p, h)

-- what is pending, and what is still to come
pub pending_total : (w : Edge → ℕ) (ends : List Edge) (waiting : List Pending) → total w (queued (all_pending ends waiting)) ≡ total w ends + total w (queued waiting)
pending_total w ends waiting = ap (total w) (pending_edges ends waiting) ∙ total-append w ends (queued waiting)

pub rises_from : (c : ℕ) (es : List Edge) → Rises 0 es → AreLate c es → Rises (2 * c) es
rises_from c [] up late = tt
rises_from c (e ∷ es) up late = (let s = le_of c e.sync (first_passes (is_from c e) (failing (is_from c) es) late) in omega (arith, s), up.1)

-- of a side that is closed up to a time nothing is to come before it
pub all_late : (kinds : List CellKind) (c : ℕ) (rows : List HeldRow) (ends : List Edge) (waiting : List Pending) (edges : List Edge) → IsSide kinds c rows (all_pending ends waiting) →
    Rises 0 edges → AreLate c edges → AreLate c (to_come ends waiting edges)
all_late kinds c rows ends waiting edges side up late =
    let a = weaker (may_wait kinds c) (is_from c) (queued (all_pending ends waiting)) (λ e h. (wait_parts kinds c e h).2) side.later in
    let b = pending_total (λ e. cond {A = ℕ} (is_from c e) 0 1) ends waiting in
    let d = come_total (λ e. cond {A = ℕ} (is_from c e) 0 1) ends waiting edges in
    let f = singles_late c edges (rises_from c edges up late) in
    omega (arith, a, b, d, f)

pub least_wider : (p : ℕ → Bool) (d to v : ℕ) → d ≤ to → first_below p d ≡ Some v → first_below p to ≡ Some v
least_wider p d zero v low h = let e : d ≡ 0 = omega (arith, low) in subst (λ n. first_below p n ≡ Some v) e h
least_wider p d (suc n) v low h = pick (cases_lt n d) (λ z. least_wider p d n v z h)
  where
    pick : (n < d) ⊎ (d ≤ n) → (d ≤ n → first_below p n ≡ Some v) → first_below p (suc n) ≡ Some v
    pick (inl z) r = let e : d ≡ suc n = omega (arith, z, low) in subst (λ m. first_below p m ≡ Some v) e h
    pick (inr z) r = ap (or_next p n) (r z)
