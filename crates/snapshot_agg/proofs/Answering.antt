-- A group's answer as it grows from instant to instant, whatever came in: its edges are real, in order, between two times, and
-- stored as the columns of its rows are.
use Rattle.std.specs.Prelude.{◌≡◌, ℕ, zero, suc, ◌+◌, ◌*◌, ◌<◌, ◌≤◌, ◌&&◌, ◌||◌, pos, nat_eq, nat_lt, nat_le, not, Bool, true, false, cond, Option, Some, None, List, [], ◌∷◌, ◌++◌, map, take, drop, length, get_or, slice_index_or, refl}
use Rattle.std.specs.List.{list_any}
use Rattle.std.proofs.Common.{sym, ◌∙◌, ap, subst, arith}
use Rattle.std.proofs.lemmas.Bool.Decides.{nat_tests}
use Rattle.std.proofs.lemmas.List.{drop-drop}
use Rattle.tw_rows.specs.Instant.{inf}
use Rattle.tw_rows.specs.Bag.{total}
use Rattle.tw_rows.specs.Cells.{datum_kind}
use Rattle.tw_rows.specs.SameCells.{same_cells, cells_are_same}
use Rattle.tw_rows.specs.declared.cells.Datum.{Datum}
use Rattle.tw_rows.specs.declared.cells.Datum.TheVariants.{Int}
use Rattle.tw_rows.specs.declared.edge.Edge.{Edge}
use Rattle.tw_rows.specs.declared.kind.CellKind.{CellKind}
use Rattle.tw_rows.specs.declared.kind.CellKind.TheVariants.{Whole}
use Rattle.tw_rows.proofs.Bags.{total_same, total_zero}
use Rattle.edge_history.specs.Order.{failing, is_real, is_from, is_below, Rises}
use Rattle.edge_history.proofs.Sums.{sum_eq}
use Rattle.key_nodes.specs.Groups.{distinct}
use Rattle.plan_laws.specs.Keeping.{plain_cells}
use Rattle.plan_model.specs.declared.agg.Agg.{Agg}
use Rattle.plan_model.specs.IsPlan.{key_kinds}
use Rattle.plan_model.specs.RowOps.{agg_in, group_row_in, rows_of_key_in}
use Rattle.sweep_laws.specs.Sweeps.{IsPast, StartsAt, SyncsRise, HeadFrom, InOrder}
use Rattle.sweep_laws.specs.Running.{Run, run_end, run_start, has_row, end_part, kept, start_part, begun_at}
use Rattle.sweep_laws.specs.Grouping.{keys_of, EndsTold, StartsTold, IsEarly}
use Rattle.sweep_laws.proofs.Instants.{syncs_rise}
use Rattle.sweep_laws.proofs.Ordering.{order_later}
use Rattle.sweep_laws.proofs.Sides.{rise_drop, rise_head, rise_past}
use Rattle.snapshot_agg.specs.Words.{key_data, tell}
use Rattle.sweep_laws.specs.Saving.{store_all}
use Rattle.sweep_laws.proofs.Stored.{stored_kinds, kinds_stored}
use Rattle.snapshot_agg.specs.Answering.{group_kinds, is_stored, is_answered, IsRunOf, AreRunsOf, IsSoFar}
use Rattle.snapshot_agg.proofs.Lists.{starts_at}

-- STORED CELLS
both_true : (a b : Bool) → a ≡ true → b ≡ true → (a && b) ≡ true
both_true a b h k = grind arith

datum_there : (ds : List Datum) (c : ℕ) → datum_kind (slice_index_or ds c (Int (pos 0))) ≡ slice_index_or (map datum_kind ds) c Whole
datum_there [] zero = refl
datum_there [] (suc c) = refl
datum_there (d ∷ ds) zero = refl
datum_there (d ∷ ds) (suc c) = datum_there ds c

key_self : (key : List ℕ) (ds : List Datum) → map datum_kind (key_data key ds) ≡ key_kinds (map datum_kind ds) key
key_self [] ds = refl
key_self (c ∷ key) ds = let a = datum_there ds c in let b = key_self key ds in λ i. a i ∷ b i

-- the data of a key are stored as the key columns
pub key_stored : (key : List ℕ) (left : List CellKind) (ds : List Datum) → store_all left ds ≡ true → store_all (key_kinds left key) (key_data key ds) ≡ true
key_stored key left ds h = kinds_stored (key_kinds left key) (key_data key ds) (key_self key ds ∙ ap (λ l. key_kinds l key) (stored_kinds left ds h))

map_append : (xs ys : List Datum) → map datum_kind (xs ++ ys) ≡ map datum_kind xs ++ map datum_kind ys
map_append [] ys = refl
map_append (x ∷ xs) ys = ap (λ l. datum_kind x ∷ l) (map_append xs ys)

ints_whole : (rows : List (List Datum)) (aggs : List Agg) → map datum_kind (map (λ a. Int (agg_in plain_cells a rows)) aggs) ≡ map (λ a. Whole) aggs
ints_whole rows [] = refl
ints_whole rows (a ∷ aggs) = ap (λ l. Whole ∷ l) (ints_whole rows aggs)

pub some_is : {X : Type 0} (x y : X) → Some x ≡ Some y → x ≡ y
some_is x y h = cc

row_stored : (aggs : List Agg) (k row : List Datum) (rows : List (List Datum)) (ks : List CellKind) → store_all ks k ≡ true → group_row_in plain_cells aggs k rows ≡ Some row →
    store_all (ks ++ map (λ a. Whole) aggs) row ≡ true
row_stored aggs k row [] ks h e = absurd (cc)
row_stored aggs k row (x ∷ rows) ks h e =
    let z = some_is (k ++ map (λ a. Int (agg_in plain_cells a (x ∷ rows))) aggs) row e in
    kinds_stored (ks ++ map (λ a. Whole) aggs) row
    (ap (map datum_kind) (sym z) ∙ map_append k (map (λ a. Int (agg_in plain_cells a (x ∷ rows))) aggs)
    ∙ ap (λ l. l ++ map datum_kind (map (λ a. Int (agg_in plain_cells a (x ∷ rows))) aggs)) (stored_kinds ks k h) ∙ ap (λ l. ks ++ l) (ints_whole (x ∷ rows) aggs))

-- the row that is told of a key that is stored so is stored as the columns of the group
pub told_stored : (key : List ℕ) (aggs : List Agg) (left : List CellKind) (k row : List Datum) (rows : List (List Datum)) → store_all (key_kinds left key) k ≡ true →
    tell key aggs k rows ≡ Some row → store_all (group_kinds key aggs left) row ≡ true
told_stored key aggs left k row rows h e = row_stored aggs k row (rows_of_key_in plain_cells key k rows) (key_kinds left key) h e

-- TESTS THAT NONE FAILS
pub passes : (b : Bool) → b ≡ true → cond {A = ℕ} b 0 1 ≡ 0
passes b h = ap (λ x. cond {A = ℕ} x 0 1) h

pub first_passes : (b : Bool) (n : ℕ) → cond {A = ℕ} b 0 1 + n ≡ 0 → b ≡ true
first_passes true n h = refl
first_passes false n h = absurd (omega (arith, h))

pub failing_drop : {X : Type 0} (p : X → Bool) (n : ℕ) (xs : List X) → failing p xs ≡ 0 → failing p (drop n xs) ≡ 0
failing_drop p zero xs h = h
failing_drop p (suc n) [] h = refl
failing_drop p (suc n) (x ∷ xs) h = failing_drop p n xs (omega (arith, h))

pub failing_take : {X : Type 0} (p : X → Bool) (n : ℕ) (xs : List X) → failing p xs ≡ 0 → failing p (take n xs) ≡ 0
failing_take p zero xs h = refl
failing_take p (suc n) [] h = refl
failing_take p (suc n) (x ∷ xs) h = let r = failing_take p n xs (omega (arith, h)) in omega (arith, h, r)

failing_distinct : (p : List Datum → Bool) (ks : List (List Datum)) → failing p ks ≡ 0 → failing p (distinct same_cells ks) ≡ 0
failing_distinct p [] h = refl
failing_distinct p (k ∷ ks) h = pick (list_any (same_cells k) ks) (failing_distinct p ks (omega (arith, h)))
  where
    pick : (b : Bool) → failing p (distinct same_cells ks) ≡ 0 → failing p (cond b (distinct same_cells ks) (k ∷ distinct same_cells ks)) ≡ 0
    pick true r = r
    pick false r = omega (arith, h, r)

key_passes : (p : List Datum → Bool) (ks : List (List Datum)) (k : List Datum) → list_any (same_cells k) ks ≡ true → failing p ks ≡ 0 → p k ≡ true
key_passes p [] k e h = absurd (cc)
key_passes p (x ∷ ks) k e h = pick (same_cells k x) refl (λ z. key_passes p ks k z (omega (arith, h)))
  where
    pick : (b : Bool) → same_cells k x ≡ b → (list_any (same_cells k) ks ≡ true → p k ≡ true) → p k ≡ true
    pick true z rest = ap p (cells_are_same k x z) ∙ first_passes (p x) (failing p ks) h
    pick false z rest = rest (sym (ap (λ b. b || list_any (same_cells k) ks) z) ∙ e)

keys_stored : (key : List ℕ) (left : List CellKind) (now : List Edge) → failing (is_stored left) now ≡ 0 → failing (store_all (key_kinds left key)) (keys_of (key_data key) now) ≡ 0
keys_stored key left [] h = refl
keys_stored key left (e ∷ now) h =
    let z = passes (store_all (key_kinds left key) (key_data key e.cells)) (key_stored key left e.cells (first_passes (store_all left e.cells) _ h)) in
    let r = keys_stored key left now (omega (arith, h)) in
    omega (arith, z, r)

-- ONE INSTANT
real_end : (s t m : ℕ) → s < t → t < m → (nat_lt t m && (nat_le s m && not (nat_eq s t))) ≡ true
real_end s t m low high = grind (arith, nat_tests)

real_start : (t m : ℕ) → t < m → (nat_lt t m && (nat_le m m && not (nat_eq m t))) ≡ true
real_start t m high = grind (arith, nat_tests)

comes_from : (c t : ℕ) → c ≤ t → nat_le c t ≡ true
comes_from c t h = grind (arith, nat_tests)

comes_below : (t d : ℕ) → t < d → nat_lt t d ≡ true
comes_below t d h = grind (arith, nat_tests)

all_true : (r f b s : Bool) → r ≡ true → f ≡ true → b ≡ true → s ≡ true → (r && (f && (b && s))) ≡ true
all_true r f b s p q u v = both_true r (f && (b && s)) p (both_true f (b && s) q (both_true b s u v))

kept_some : (o : Option (List Datum)) (r : Option Run) (x : Run) → kept o r ≡ Some x → r ≡ Some x
kept_some o None x h = absurd (cc)
kept_some o (Some y) x h = pick (has_row o y.row) h
  where
    pick : (b : Bool) → cond b (Some y) None ≡ Some x → Some y ≡ Some x
    pick true k = k
    pick false k = absurd (cc)

module _ (key : List ℕ) (aggs : List Agg) (left : List CellKind) (from t to : ℕ) (low : from ≤ t) (mid : t < to) (high : to ≤ inf)
    (now : List Edge) (stored : failing (is_stored left) now ≡ 0) (rows : List (List Datum)) where
  early_inf : t < inf
  early_inf = omega (arith, mid, high)

  edge_weighs : (e : Edge) → e.sync ≡ t → (nat_lt t inf && (nat_le e.other inf && not (nat_eq e.other t))) ≡ true → store_all (group_kinds key aggs left) e.cells ≡ true →
      cond {A = ℕ} (is_answered (group_kinds key aggs left) from to e) 0 1 ≡ 0
  edge_weighs e is real cells = passes (is_answered (group_kinds key aggs left) from to e)
      (all_true (is_real e) (is_from from e) (is_below to e) (is_stored (group_kinds key aggs left) e)
      (ap (λ n. nat_lt n inf && (nat_le e.other inf && not (nat_eq e.other n))) is ∙ real) (ap (nat_le from) is ∙ comes_from from t low) (ap (λ n. nat_lt n to) is ∙ comes_below t to mid) cells)

  end_weighs : (q : Option (List Datum)) (r : Option Run) → ((x : Run) → r ≡ Some x → IsRunOf (group_kinds key aggs left) t x) →
      total (λ e. cond (is_answered (group_kinds key aggs left) from to e) 0 1) (end_part t q r) ≡ 0
  end_weighs q None h = refl
  end_weighs q (Some x) h = pick (has_row q x.row)
    where
      pick : (b : Bool) → total (λ e. cond (is_answered (group_kinds key aggs left) from to e) 0 1) (cond b [] (run_end t x ∷ [])) ≡ 0
      pick true = refl
      pick false = let z = edge_weighs (run_end t x) refl (real_end x.start t inf (h x refl).early early_inf) (h x refl).stored in omega (arith, z)

  start_weighs : (q : Option (List Datum)) (r : Option Run) → ((row : List Datum) → q ≡ Some row → store_all (group_kinds key aggs left) row ≡ true) →
      total (λ e. cond (is_answered (group_kinds key aggs left) from to e) 0 1) (start_part t q r) ≡ 0
  start_weighs q (Some x) h = refl
  start_weighs None None h = refl
  start_weighs (Some row) None h = let z = edge_weighs (run_start t row) refl (real_start t inf early_inf) (h row refl) in omega (arith, z)

  begun_is : (q : Option (List Datum)) (r : Option Run) (x : Run) → ((y : Run) → r ≡ Some y → IsRunOf (group_kinds key aggs left) t y) →
      ((row : List Datum) → q ≡ Some row → store_all (group_kinds key aggs left) row ≡ true) → begun_at t q r ≡ Some x → IsRunOf (group_kinds key aggs left) (suc t) x
  begun_is q (Some y) x h k e = record { early = let z = (h x e).early in omega (arith, z); stored = (h x e).stored }
  begun_is None None x h k e = absurd (cc)
  begun_is (Some row) None x h k e =
      let z = some_is {X = Run} (record { row = row; start = t }) x e in
      subst (IsRunOf (group_kinds key aggs left) (suc t)) z (record { early = omega arith; stored = k row refl })

  early_run : (r : Option Run) → ((x : Run) → r ≡ Some x → IsRunOf (group_kinds key aggs left) t x) → IsEarly t r
  early_run None h = tt
  early_run (Some x) h = (h x refl).early

  module _ (run0 run1 run2 : List Datum → Option Run) (answer0 answer1 answer2 : List Edge)
      (ends : EndsTold (key_data key) same_cells t now (λ k. tell key aggs k rows) run0 run1 answer0 answer1)
      (starts : StartsTold (key_data key) same_cells t now (λ k. tell key aggs k rows) run1 run2 answer1 answer2)
      (up1 : ((k : List Datum) → IsEarly t (run0 k)) → InOrder (2 * t) answer0 → InOrder (2 * t) answer1)
      (up2 : t < inf → InOrder (suc (2 * t)) answer1 → InOrder (suc (2 * t)) answer2)
      (so_far : IsSoFar (group_kinds key aggs left) from t to run0 answer0) where
    stored_key : (k : List Datum) → store_all (key_kinds left key) k ≡ true → (row : List Datum) → tell key aggs k rows ≡ Some row → store_all (group_kinds key aggs left) row ≡ true
    stored_key k h row e = told_stored key aggs left k row rows h e

    ends_answered : failing (is_answered (group_kinds key aggs left) from to) answer1 ≡ 0
    ends_answered =
        let h = ends.weigh (λ e. cond (is_answered (group_kinds key aggs left) from to e) 0 1) (keys_of (key_data key) now) (λ k e. e) in
        let z = total_same (λ k. total (λ e. cond (is_answered (group_kinds key aggs left) from to e) 0 1) (end_part t (tell key aggs k rows) (run0 k))) (λ k. 0) (distinct same_cells (keys_of (key_data key) now))
        (λ k. end_weighs (tell key aggs k rows) (run0 k) (so_far.runs k)) ∙ total_zero (distinct same_cells (keys_of (key_data key) now)) in
        let b = so_far.answered in
        omega (arith, h, z, b)

    runs_ended : AreRunsOf (group_kinds key aggs left) t run1
    runs_ended k x e = so_far.runs k x (pick (list_any (same_cells k) (keys_of (key_data key) now)) refl)
      where
        pick : (b : Bool) → list_any (same_cells k) (keys_of (key_data key) now) ≡ b → run0 k ≡ Some x
        pick true m = kept_some (tell key aggs k rows) (run0 k) x (sym (ends.touched k m) ∙ e)
        pick false m = sym (ends.others k m) ∙ e

    starts_answered : failing (is_answered (group_kinds key aggs left) from to) answer2 ≡ 0
    starts_answered =
        let h = starts.weigh (λ e. cond (is_answered (group_kinds key aggs left) from to e) 0 1) (keys_of (key_data key) now) (λ k e. e) in
        let z = sum_eq (store_all (key_kinds left key)) (λ k. total (λ e. cond (is_answered (group_kinds key aggs left) from to e) 0 1) (start_part t (tell key aggs k rows) (run1 k))) (λ k. 0) (distinct same_cells (keys_of (key_data key) now))
        (λ k p. start_weighs (tell key aggs k rows) (run1 k) (stored_key k p))
        (failing_distinct (store_all (key_kinds left key)) (keys_of (key_data key) now) (keys_stored key left now stored)) ∙ total_zero (distinct same_cells (keys_of (key_data key) now)) in
        let b = ends_answered in
        omega (arith, h, z, b)

    runs_started : AreRunsOf (group_kinds key aggs left) (suc t) run2
    runs_started k x e = pick (list_any (same_cells k) (keys_of (key_data key) now)) refl
      where
        pick : (b : Bool) → list_any (same_cells k) (keys_of (key_data key) now) ≡ b → IsRunOf (group_kinds key aggs left) (suc t) x
        pick true m =
            begun_is (tell key aggs k rows) (run1 k) x (runs_ended k)
            (stored_key k (key_passes (store_all (key_kinds left key)) (keys_of (key_data key) now) k m (keys_stored key left now stored))) (sym (starts.touched k m) ∙ e)
        pick false m = let r = runs_ended k x (sym (starts.others k m) ∙ e) in record { early = let z = r.early in omega (arith, z); stored = r.stored }

    pub instant_so_far : IsSoFar (group_kinds key aggs left) from (suc t) to run2 answer2
    instant_so_far = record {
      runs = runs_started;
      order = order_later (suc (2 * t)) (2 * suc t) answer2 (omega arith)
          (up2 early_inf (order_later (2 * t) (suc (2 * t)) answer1 (omega arith) (up1 (λ k. early_run (run0 k) (so_far.runs k)) so_far.order)));
      answered = starts_answered;
    }

-- FROM INSTANT TO INSTANT
rise_starts : (t u : ℕ) (xs : List Edge) → StartsAt t xs → SyncsRise u xs → (u ≤ t) × SyncsRise t xs
rise_starts t u [] h k = absurd h
rise_starts t u (x ∷ xs) h k = (omega (arith, h, k.0), (omega (arith, h), k.1))

below_head : (t to : ℕ) (xs : List Edge) → StartsAt t xs → failing (is_below to) xs ≡ 0 → t < to
below_head t to [] h k = absurd h
below_head t to (x ∷ xs) h k = one x.sync h (first_passes (nat_lt x.sync to) _ k)
  where
    one : (s : ℕ) → s ≡ t → nat_lt s to ≡ true → t < to
    one s e z = grind (arith, nat_tests)

-- so far, with these edges left
pub record Going (kinds : List CellKind) (from to : ℕ) (rest : List Edge) (run : List Datum → Option Run) (answer : List Edge) : Type 0 where
  pub at : ℕ
  pub low : from ≤ at
  pub high : at ≤ to
  pub rise : SyncsRise at rest
  pub so_far : IsSoFar kinds from at to run answer

pub so_far_later : (kinds : List CellKind) (from u v to : ℕ) (run : List Datum → Option Run) (answer : List Edge) → u ≤ v → IsSoFar kinds from u to run answer → IsSoFar kinds from v to run answer
so_far_later kinds from u v to run answer low s = record {
  runs = λ k x e. record { early = let z = (s.runs k x e).early in omega (arith, z, low); stored = (s.runs k x e).stored };
  order = order_later (2 * u) (2 * v) answer (omega (arith, low)) s.order;
  answered = s.answered;
}

pub going_starts : (kinds : List CellKind) (lo from to n : ℕ) (due : List Edge) (run : List Datum → Option Run) (answer : List Edge) → lo ≤ from → from ≤ to → Rises 0 due → HeadFrom from (drop n due) →
    IsSoFar kinds lo from to run answer → Going kinds lo to (drop n due) run answer
going_starts kinds lo from to n due run answer under low up head s = record {
  at = from;
  low = under;
  high = low;
  rise = rise_head from (drop n due) head (rise_drop n 0 due (syncs_rise due up));
  so_far = s;
}

pub going_more : (kinds : List CellKind) (left : List CellKind) (from to i n : ℕ) (due rest : List Edge) (d : Edge) (run run2 : List Datum → Option Run) (answer answer2 : List Edge) →
    i < length due → rest ≡ drop i due → IsPast (get_or due i d).sync (drop n rest) →
    failing (is_below to) due ≡ 0 → failing (is_stored left) due ≡ 0 →
    (from ≤ (get_or due i d).sync → (get_or due i d).sync < to → failing (is_stored left) (take n rest) ≡ 0 →
    IsSoFar kinds from (get_or due i d).sync to run answer → IsSoFar kinds from (suc (get_or due i d).sync) to run2 answer2) →
    Going kinds from to (drop i due) run answer → Going kinds from to (drop (i + n) due) run2 answer2
going_more kinds left from to i n due rest d run run2 answer answer2 low is past below stored step g =
    let t = (get_or due i d).sync in
    let s = rise_starts t g.at (drop i due) (starts_at due i d low) g.rise in
    let b : t < to = below_head t to (drop i due) (starts_at due i d low) (failing_drop (is_below to) i due below) in
    let gl = g.low in
    let f : from ≤ t = omega (arith, gl, s.0) in
    let p : IsPast t (drop n (drop i due)) = subst (λ l. IsPast t (drop n l)) is past in
    record {
      at = suc t;
      low = omega (arith, f);
      high = b;
      rise = subst (SyncsRise (suc t)) (drop-drop n i due) (rise_past t (drop n (drop i due)) (rise_drop n t (drop i due) s.1) p);
      so_far = step f b (subst (λ l. failing (is_stored left) (take n l) ≡ 0) (sym is) (failing_take (is_stored left) n (drop i due) (failing_drop (is_stored left) i due stored)))
          (so_far_later kinds from g.at t to run answer s.0 g.so_far);
    }

pub going_ends : (kinds : List CellKind) (from to : ℕ) (rest : List Edge) (run : List Datum → Option Run) (answer : List Edge) → Going kinds from to rest run answer → IsSoFar kinds from to to run answer
going_ends kinds from to rest run answer g = so_far_later kinds from g.at to to run answer g.high g.so_far
