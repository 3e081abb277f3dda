-- How late the finite times are of what each step makes of events.
use Rattle.std.specs.Prelude.{◌≡◌, ℕ, zero, suc, ◌+◌, ◌-◌, ◌<◌, ◌≤◌, min, max, nat_lt, nat_le, nat_eq, Bool, true, false, cond, not, ◌&&◌, IsTrue, Option, Some, None, List, [], ◌∷◌, ◌++◌, map, filter, flat_map, replicate, refl}
use Rattle.std.specs.List.{list_any}
use Rattle.std.proofs.Common.{inl, inr, sym, ◌∙◌, ap, arith}
use Rattle.std.proofs.lemmas.Bool.{cases_lt, eq-eqb, and_from, and_parts}
use Rattle.std.proofs.lemmas.Bool.Decides.{nat_tests}
use Rattle.tw_rows.specs.Instant.{inf, later}
use Rattle.tw_rows.specs.Event.{Event, lives_at, alive, AreEvents}
use Rattle.key_nodes.specs.Runs.{Tells, goes_on, runs}
use Rattle.key_nodes.specs.Groups.{distinct, grouped}
use Rattle.key_nodes.specs.Antis.{alone_at, alone}
use Rattle.key_nodes.specs.Joins.{with_life, joined_one, joined}
use Rattle.key_nodes.specs.Sessions.{least, session, sessions}
use Rattle.key_nodes.specs.Clips.{clip, clipped}
use Rattle.key_nodes.specs.Coalesced.{how_often, rows_before, rise_times, fall_times, paired_times, row_events, rows_below, coalesced}
use Rattle.key_nodes.specs.Follows.{starts_next, followed_one, followed}
use Rattle.key_nodes.proofs.RunSteps.{Within, runs_within}
use Rattle.plan_laws.specs.Times.{TimesUpTo}

pub up_to_more : {R : Type 0} (m n : ℕ) (es : List (Event R)) → m ≤ n → TimesUpTo m es → TimesUpTo n es
up_to_more m n [] low h = tt
up_to_more m n (e ∷ es) low h =
    ((let a = h.0 in omega (arith, low, a)), λ l. (let a = h.1 l in omega (arith, low, a)), up_to_more m n es low h.2)

pub up_to_append : {R : Type 0} (m : ℕ) (xs ys : List (Event R)) → TimesUpTo m xs → TimesUpTo m ys →
    TimesUpTo m (xs ++ ys)
up_to_append m [] ys h k = k
up_to_append m (x ∷ xs) ys h k = (h.0, h.1, up_to_append m xs ys h.2 k)

-- what takes its events one by one
pub up_to_each : {Q R : Type 0} (m n : ℕ) (one : Event Q → List (Event R)) →
    ((e : Event Q) → e.start ≤ m → (e.end < inf → e.end ≤ m) → TimesUpTo n (one e)) → (es : List (Event Q)) →
    TimesUpTo m es → TimesUpTo n (flat_map one es)
up_to_each m n one h [] k = tt
up_to_each m n one h (e ∷ es) k = up_to_append n (one e) (flat_map one es) (h e k.0 k.1) (up_to_each m n one h es k.2)

pub up_to_map : {Q R : Type 0} (m n : ℕ) (one : Event Q → Event R) →
    ((e : Event Q) → e.start ≤ m → (e.end < inf → e.end ≤ m) →
    ((one e).start ≤ n) × ((one e).end < inf → (one e).end ≤ n)) → (es : List (Event Q)) →
    TimesUpTo m es → TimesUpTo n (map one es)
up_to_map m n one h [] k = tt
up_to_map m n one h (e ∷ es) k = let a = h e k.0 k.1 in (a.0, a.1, up_to_map m n one h es k.2)

pub up_to_filter : {R : Type 0} (m : ℕ) (p : Event R → Bool) (es : List (Event R)) → TimesUpTo m es →
    TimesUpTo m (filter p es)
up_to_filter m p [] h = tt
up_to_filter m p (e ∷ es) h = pick (p e) (up_to_filter m p es h.2)
  where
    pick : (b : Bool) → TimesUpTo m (filter p es) → TimesUpTo m (cond b (e ∷ filter p es) (filter p es))
    pick true k = (h.0, h.1, k)
    pick false k = k

pub up_to_all : {X R : Type 0} (m : ℕ) (f : X → List (Event R)) (xs : List X) → ((x : X) → TimesUpTo m (f x)) →
    TimesUpTo m (flat_map f xs)
up_to_all m f [] h = tt
up_to_all m f (x ∷ xs) h = up_to_append m (f x) (flat_map f xs) (h x) (up_to_all m f xs h)

pub up_to_cond : {R : Type 0} (m : ℕ) (b : Bool) (e : Event R) →
    (b ≡ true → (e.start ≤ m) × (e.end < inf → e.end ≤ m)) → TimesUpTo m (cond b (e ∷ []) [])
up_to_cond m true e h = let k = h refl in (k.0, k.1, tt)
up_to_cond m false e h = tt

-- a life that is not empty and ends by infinity starts before it
pub up_to_with_life : {R : Type 0} (m : ℕ) (row : R) (start end : ℕ) → end ≤ inf →
    (start < inf → start ≤ m) → (end < inf → end ≤ m) → TimesUpTo m (with_life row start end)
up_to_with_life m row start end high h k =
    up_to_cond m (nat_lt start end) (record { row = row; start = start; end = end })
    (λ t. (h (below t), k))
  where
    below : nat_lt start end ≡ true → start < inf
    below t = grind (arith, nat_tests)

-- from m on nothing starts or ends, so the same rows are alive
alive_stays : {R : Type 0} (m t : ℕ) (es : List (Event R)) → TimesUpTo m es → AreEvents es → m ≤ t → suc t < inf →
    alive es (suc t) ≡ alive es t
alive_stays m t [] h v low high = refl
alive_stays m t (e ∷ es) h v low high =
    let a = h.0 in let b = h.1 in let c = v.1 in
    let s : lives_at (suc t) e ≡ lives_at t e = one e.start e.end a b c in
    ap (λ x. map (λ y. y.row) (cond x (e ∷ filter (lives_at (suc t)) es) (filter (lives_at (suc t)) es))) s
    ∙ pick (lives_at t e) (alive_stays m t es h.2 v.2 low high)
  where
    one : (s n : ℕ) → s ≤ m → (n < inf → n ≤ m) → n ≤ inf → (nat_le s (suc t) && nat_lt (suc t) n) ≡ (nat_le s t && nat_lt t n)
    one s n a b c = elim (cases_lt n inf) [
      | inl k ↦ let d = b k in grind (arith, nat_tests)
      | inr k ↦ grind (arith, nat_tests)
    ]

    pick : (x : Bool) → alive es (suc t) ≡ alive es t →
        map (λ y. y.row) (cond x (e ∷ filter (lives_at (suc t)) es) (filter (lives_at (suc t)) es))
        ≡ map (λ y. y.row) (cond x (e ∷ filter (lives_at t) es) (filter (lives_at t) es))
    pick true k = ap (λ l. e.row ∷ l) k
    pick false k = k

pub alive_after : {R : Type 0} (m t : ℕ) (es : List (Event R)) → TimesUpTo m es → AreEvents es → m ≤ t → t < inf →
    alive es t ≡ alive es m
alive_after m t es h v low high = (let e : t ≡ m + (t - m) = omega (arith, low) in ap (alive es) e) ∙ go (t - m) (omega (arith, low, high))
  where
    go : (d : ℕ) → m + d < inf → alive es (m + d) ≡ alive es m
    go zero k = let e : m + 0 ≡ m = omega arith in ap (alive es) e
    go (suc d) k =
        let e : m + suc d ≡ suc (m + d) = omega arith in
        ap (alive es) e ∙ (alive_stays m (m + d) es h v (omega arith) (omega (arith, k)) ∙ go d (omega (arith, k)))

within_up_to : {R : Type 0} (m : ℕ) (es : List (Event R)) → Within m es → TimesUpTo m es
within_up_to m [] h = tt
within_up_to m (e ∷ es) h =
    let a = h.0 in let b = h.1 in (omega (arith, a, b), λ l. b, within_up_to m es h.2)

-- runs of rows that stay from m on
module _ {R : Type 0} (same_row : R → R → Bool) (tells : Tells same_row) (f : ℕ → Option R) (m : ℕ)
    (stays : (t : ℕ) → m ≤ t → t < inf → f t ≡ f m) where
  -- the runs below n, of which only the latest may last until n
  abbrev Lasts : Option R → ℕ → List (Event R) → Type 0
  Lasts None n es = TimesUpTo m es
  Lasts (Some r) n [] = ⊥
  Lasts (Some r) n (e ∷ es) = (e.start ≤ m) × (e.end ≡ n) × IsTrue (same_row e.row r) × TimesUpTo m es

  first_lasts : (o : Option R) (es : List (Event R)) → Within m es → Lasts o (suc m) (goes_on same_row o m es)
  first_lasts None es h = within_up_to m es h
  first_lasts (Some r) [] h = (omega arith, refl, (tells r r).1 refl, tt)
  first_lasts (Some r) (e ∷ es) h = pick (nat_eq e.end m && same_row e.row r) refl
    where
      pick : (b : Bool) → (nat_eq e.end m && same_row e.row r) ≡ b →
          Lasts (Some r) (suc m)
          (cond b (record { row = e.row; start = e.start; end = suc m } ∷ es)
          (record { row = r; start = m; end = suc m } ∷ e ∷ es))
      pick true t = let a = h.0 in let b = h.1 in
          (omega (arith, a, b), refl, (and_parts (nat_eq e.end m) (same_row e.row r) t).1, within_up_to m es h.2)
      pick false t = (omega arith, refl, (tells r r).1 refl, within_up_to m (e ∷ es) h)

  next_lasts : (o : Option R) (n : ℕ) (es : List (Event R)) → Lasts o n es → Lasts o (suc n) (goes_on same_row o n es)
  next_lasts None n es h = h
  next_lasts (Some r) n [] h = absurd h
  next_lasts (Some r) n (e ∷ es) h = pick (nat_eq e.end n && same_row e.row r) refl
    where
      pick : (b : Bool) → (nat_eq e.end n && same_row e.row r) ≡ b →
          Lasts (Some r) (suc n)
          (cond b (record { row = e.row; start = e.start; end = suc n } ∷ es)
          (record { row = r; start = n; end = suc n } ∷ e ∷ es))
      pick true t = (h.0, refl, h.2, h.3)
      pick false t =
          let a = and_from (nat_eq e.end n) (same_row e.row r) (eq-eqb e.end n h.1) h.2 in absurd (cc)

  lasts : (d : ℕ) → m + d < inf → Lasts (f m) (suc (m + d)) (runs same_row f (suc (m + d)))
  lasts zero low =
      let e : m + 0 ≡ m = omega arith in
      rw e (first_lasts (f m) (runs same_row f m) (runs_within same_row f m))
  lasts (suc d) low =
      let e : m + suc d ≡ suc (m + d) = omega arith in
      rw (e, stays (suc (m + d)) (omega arith) (omega (arith, low)))
      (next_lasts (f m) (suc (m + d)) (runs same_row f (suc (m + d))) (lasts d (omega (arith, low))))

  lasts_up_to : (o : Option R) (n : ℕ) (es : List (Event R)) → inf ≤ n → Lasts o n es → TimesUpTo m es
  lasts_up_to None n es high h = h
  lasts_up_to (Some r) n [] high h = absurd h
  lasts_up_to (Some r) n (e ∷ es) high h =
      (h.0, λ l. (let a = h.1 in absurd (omega (arith, a, high, l))), h.3)

  pub runs_up_to : TimesUpTo m (runs same_row f inf)
  runs_up_to = elim (cases_lt m inf) [
    | inl low ↦
        let e : inf ≡ suc (m + (inf - suc m)) = omega (arith, low) in
        lasts_up_to (f m) inf (runs same_row f inf) (omega arith)
        (rw e (lasts (inf - suc m) (omega (arith, low))))
    | inr high ↦ up_to_more inf m (runs same_row f inf) high (within_up_to inf _ (runs_within same_row f inf))
  ]

module _ {R K S : Type 0} (key : R → K) (same : K → K → Bool) (same_row : S → S → Bool) (tells : Tells same_row)
    (tell : K → List R → Option S) where
  pub grouped_up_to : (m : ℕ) (es : List (Event R)) → AreEvents es → TimesUpTo m es →
      TimesUpTo m (grouped key same same_row tell es)
  grouped_up_to m es v h =
      up_to_all m (λ k. runs same_row (λ t. tell k (alive es t)) inf) (distinct same (map (λ e. key e.row) es))
      (λ k. runs_up_to same_row tells (λ t. tell k (alive es t)) m
      (λ t low high. ap (tell k) (alive_after m t es h v low high)))

module _ {L R : Type 0} (same_row : L → L → Bool) (tells : Tells same_row) (meets : L → R → Bool) where
  alone_stays : (m t : ℕ) (e : Event L) (rs : List (Event R)) → e.start ≤ m → (e.end < inf → e.end ≤ m) → e.end ≤ inf →
      AreEvents rs → TimesUpTo m rs → m ≤ t → t < inf → alone_at meets rs e t ≡ alone_at meets rs e m
  alone_stays m t e rs a b c v h low high =
      ap (λ x. cond (x && not (list_any (meets e.row) (alive rs t))) (Some e.row) None) (lives e.start e.end a b c)
      ∙ ap (λ x. cond (lives_at m e && not (list_any (meets e.row) x)) (Some e.row) None)
      (alive_after m t rs h v low high)
    where
      lives : (s n : ℕ) → s ≤ m → (n < inf → n ≤ m) → n ≤ inf →
          (nat_le s t && nat_lt t n) ≡ (nat_le s m && nat_lt m n)
      lives s n a b c = elim (cases_lt n inf) [
        | inl k ↦ let d = b k in grind (arith, nat_tests)
        | inr k ↦ grind (arith, nat_tests)
      ]

  pub alone_up_to : (m : ℕ) (ls : List (Event L)) (rs : List (Event R)) → AreEvents ls → AreEvents rs →
      TimesUpTo m ls → TimesUpTo m rs → TimesUpTo m (alone same_row meets ls rs)
  alone_up_to m [] rs u v h k = tt
  alone_up_to m (e ∷ ls) rs u v h k =
      up_to_append m (runs same_row (alone_at meets rs e) inf) (alone same_row meets ls rs)
      (runs_up_to same_row tells (alone_at meets rs e) m
      (λ t low high. alone_stays m t e rs h.0 h.1 u.1 v k low high))
      (alone_up_to m ls rs u.2 v h.2 k)

-- the finite numbers of a list are at most m
abbrev pub FiniteUpTo : ℕ → List ℕ → Type 0
FiniteUpTo m [] = Unit {0}
FiniteUpTo m (n ∷ ns) = (n < inf → n ≤ m) × FiniteUpTo m ns

least_up_to : (m x : ℕ) (ns : List ℕ) → (x < inf → x ≤ m) → FiniteUpTo m ns → least x ns < inf → least x ns ≤ m
least_up_to m x [] h k low = h low
least_up_to m x (n ∷ ns) h k low = elim (cases_lt n (least x ns)) [
  | inl less ↦ (let a = k.0 (omega (arith, less, low)) in omega (arith, a, less))
  | inr more ↦ (let a = least_up_to m x ns h k.1 (omega (arith, more, low)) in omega (arith, a, more))
]

finite_filter : (m : ℕ) (p : ℕ → Bool) (ns : List ℕ) → FiniteUpTo m ns → FiniteUpTo m (filter p ns)
finite_filter m p [] h = tt
finite_filter m p (n ∷ ns) h = pick (p n) (finite_filter m p ns h.1)
  where
    pick : (b : Bool) → FiniteUpTo m (filter p ns) → FiniteUpTo m (cond b (n ∷ filter p ns) (filter p ns))
    pick true k = (h.0, k)
    pick false k = k

finite_later : (m by : ℕ) (ns : List ℕ) → FiniteUpTo m ns → FiniteUpTo (m + by) (map (later by) ns)
finite_later m by [] h = tt
finite_later m by (n ∷ ns) h = (
  λ low. (let a = h.0 (omega (arith, low)) in omega (arith, a, low)),
  finite_later m by ns h.1,
)

finite_starts : {R : Type 0} (m : ℕ) (p : Event R → Bool) (es : List (Event R)) → TimesUpTo m es →
    FiniteUpTo m (map (λ e. e.start) (filter p es))
finite_starts m p [] h = tt
finite_starts m p (e ∷ es) h = pick (p e) (finite_starts m p es h.2)
  where
    pick : (b : Bool) → FiniteUpTo m (map (λ e. e.start) (filter p es)) →
        FiniteUpTo m (map (λ e. e.start) (cond b (e ∷ filter p es) (filter p es)))
    pick true k = (λ l. h.0, k)
    pick false k = k

pub sessions_up_to : {R K : Type 0} (key : R → K) (same : K → K → Bool) (timeout m : ℕ) (es : List (Event R)) →
    TimesUpTo m es → TimesUpTo (m + timeout) (sessions key same timeout es)
sessions_up_to key same timeout m es h =
    up_to_map m (m + timeout) (session key same timeout es)
    (λ e a b. (
      omega (arith, a),
      least_up_to (m + timeout) inf _ (λ low. absurd (omega (arith, low)))
          (finite_later m timeout _ (finite_filter m _ _
          (finite_starts m (λ x. same (key e.row) (key x.row)) es h))),
    )) es h

pub clipped_up_to : {L R : Type 0} (meets : L → R → Bool) (m : ℕ) (ls : List (Event L)) (rs : List (Event R)) →
    TimesUpTo m ls → TimesUpTo m rs → TimesUpTo m (clipped meets ls rs)
clipped_up_to meets m ls rs h k =
    up_to_map m m (clip meets rs)
    (λ e a b. (
      a,
      least_up_to m e.end _ b
          (finite_starts m (λ r. meets e.row r.row && nat_lt e.start r.start) rs k),
    )) ls h

pub joined_up_to : {L R P : Type 0} (meets : L → R → Bool) (pair : L → R → P) (m : ℕ) (ls : List (Event L))
    (rs : List (Event R)) → TimesUpTo m ls → TimesUpTo m rs → AreEvents ls → TimesUpTo m (joined meets pair ls rs)
joined_up_to meets pair m [] rs h k v = tt
joined_up_to {L} {R} {P} meets pair m (a ∷ ls) rs h k v =
    up_to_append m (flat_map (joined_one meets pair a) rs) (joined meets pair ls rs)
    (up_to_each m m (joined_one meets pair a) (λ b s e. pick (meets a.row b.row) b s e) rs k)
    (joined_up_to meets pair m ls rs h.2 k v.2)
  where
    pick : (c : Bool) (b : Event R) → b.start ≤ m → (b.end < inf → b.end ≤ m) →
        TimesUpTo m (cond c (with_life (pair a.row b.row) (max a.start b.start) (min a.end b.end)) [])
    pick false b s e = tt
    pick true b s e =
        up_to_with_life m (pair a.row b.row) (max a.start b.start) (min a.end b.end)
        (let c = v.1 in omega (arith, c)) (λ l. (let c = h.0 in omega (arith, c, s))) (least (h.1))
      where
        least : (a.end < inf → a.end ≤ m) → min a.end b.end < inf → min a.end b.end ≤ m
        least c l = elim (cases_lt a.end b.end) [
          | inl less ↦ (let d = c (omega (arith, less, l)) in omega (arith, d, less))
          | inr more ↦ (let d = e (omega (arith, more, l)) in omega (arith, d, more))
        ]

pub followed_up_to : {L R P : Type 0} (meets : L → R → Bool) (pair : L → R → P) (within m : ℕ)
    (ls : List (Event L)) (rs : List (Event R)) → TimesUpTo m ls → TimesUpTo m rs →
    TimesUpTo (m + within) (followed meets pair within ls rs)
followed_up_to meets pair within m ls rs h k =
    up_to_each m (m + within) (λ a. flat_map (followed_one meets pair within rs a) rs)
    (λ a s e. up_to_each m (m + within) (followed_one meets pair within rs a)
    (λ b t f. up_to_cond (m + within) (starts_next meets within rs a b)
    (record { row = pair a.row b.row; start = b.start; end = later within a.start })
    (λ z. (omega (arith, t), λ low. omega (arith, s, low)))) rs k) ls h

-- coalesced events
abbrev pub AllUpTo : ℕ → List ℕ → Type 0
AllUpTo m [] = Unit {0}
AllUpTo m (n ∷ ns) = (n ≤ m) × AllUpTo m ns

all_append : (m t k : ℕ) (ns : List ℕ) → AllUpTo m ns → t ≤ m → AllUpTo m (ns ++ replicate k t)
all_append m t zero [] h low = tt
all_append m t (suc k) [] h low = (low, all_append m t k [] tt low)
all_append m t k (n ∷ ns) h low = (h.0, all_append m t k ns h.1 low)

all_none : (m t k : ℕ) (ns : List ℕ) → AllUpTo m ns → k ≡ 0 → AllUpTo m (ns ++ replicate k t)
all_none m t k [] h e = rw e tt
all_none m t k (n ∷ ns) h e = (h.0, all_none m t k ns h.1 e)

paired_up_to : {R : Type 0} (m : ℕ) (r : R) (starts ends : List ℕ) → AllUpTo m starts → AllUpTo m ends →
    TimesUpTo m (paired_times r starts ends)
paired_up_to m r [] ends h k = tt
paired_up_to m r (s ∷ starts) [] h k = (h.0, λ low. absurd (omega (arith, low)), paired_up_to m r starts [] h.1 k)
paired_up_to m r (s ∷ starts) (e ∷ ends) h k = (h.0, λ low. k.0, paired_up_to m r starts ends h.1 k.1)

module _ {R : Type 0} (same : R → R → Bool) (rows : ℕ → List R) (m : ℕ)
    (stays : (t : ℕ) → m ≤ t → t < inf → rows t ≡ rows m) where
  before_stays : (t : ℕ) → m < t → t < inf → rows_before rows t ≡ rows t
  before_stays zero low high = absurd (omega (arith, low))
  before_stays (suc t) low high = stays t (omega (arith, low)) (omega (arith, high)) ∙ sym (stays (suc t) (omega (arith, low)) high)

  rises_up_to : (r : R) (n : ℕ) → n ≤ inf → AllUpTo m (rise_times same rows r n)
  rises_up_to r zero low = tt
  rises_up_to r (suc t) low = elim (cases_lt m t) [
    | inl late ↦
        let e = ap (λ l. how_often same r (rows t) - how_often same r l) (before_stays t late (omega (arith, low))) in
        all_none m t _ (rise_times same rows r t) (rises_up_to r t (omega (arith, low)))
        (e ∙ (let z : how_often same r (rows t) - how_often same r (rows t) ≡ 0 = omega arith in z))
    | inr early ↦ all_append m t _ (rise_times same rows r t) (rises_up_to r t (omega (arith, low))) early
  ]

  falls_up_to : (r : R) (n : ℕ) → n ≤ inf → AllUpTo m (fall_times same rows r n)
  falls_up_to r zero low = tt
  falls_up_to r (suc t) low = elim (cases_lt m t) [
    | inl late ↦
        let e = ap (λ l. how_often same r l - how_often same r (rows t)) (before_stays t late (omega (arith, low))) in
        all_none m t _ (fall_times same rows r t) (falls_up_to r t (omega (arith, low)))
        (e ∙ (let z : how_often same r (rows t) - how_often same r (rows t) ≡ 0 = omega arith in z))
    | inr early ↦ all_append m t _ (fall_times same rows r t) (falls_up_to r t (omega (arith, low))) early
  ]

  pub coalesced_up_to : TimesUpTo m (coalesced same rows)
  coalesced_up_to =
      up_to_all m (row_events same rows inf) (distinct same (rows_below rows inf))
      (λ r. paired_up_to m r (rise_times same rows r inf) (fall_times same rows r inf)
      (rises_up_to r inf (omega arith)) (falls_up_to r inf (omega arith)))
