-- Counts of events that do not end before a time, over lists of which the same is known below a time.
use Rattle.std.specs.Prelude.{◌≡◌, ℕ, ◌+◌, ◌<◌, ◌≤◌, ◌⊎◌, nat_lt, nat_le, not, Bool, true, false, cond, List, [], ◌∷◌, map, filter, flat_map, refl}
use Rattle.std.proofs.Common.{sym, ◌∙◌, ap, subst, arith, inl, inr}
use Rattle.std.proofs.lemmas.Bool.{cases_lt, lt-ltb, le-ltb, le-leb}
use Rattle.std.proofs.lemmas.Bool.Decides.{nat_tests}
use Rattle.tw_rows.specs.Instant.{inf, later}
use Rattle.tw_rows.specs.Bag.{total}
use Rattle.tw_rows.specs.Event.{Event, AreEvents, seen, Known}
use Rattle.tw_rows.specs.declared.edge.Edge.{Edge}
use Rattle.tw_rows.proofs.Bags.{total-map, total-flat_map}
use Rattle.tw_rows.proofs.Lives.{total-cut}
use Rattle.key_nodes.proofs.Bags.{total_le}
use Rattle.key_nodes.specs.Clips.{clip, clipped}
use Rattle.key_nodes.specs.Sessions.{session}
use Rattle.plan_model.specs.Lives.{hopped_one, hopped, lasting_one, lasting, extended_one, extended, in_sessions}
use Rattle.plan_laws.specs.Held.{reaching}
use Rattle.edge_history.specs.Order.{is_end, is_below, failing}
use Rattle.edge_history.specs.History.{CellEvent, begun_one, begun, is_open, ended, end_step, end_all, of}

-- each event starts below c. The lives [3, 9) and [4, inf) start below 5, and not below 4
abbrev pub StartBelow : {R : Type 0} → ℕ → List (Event R) → Type 0
StartBelow c [] = Unit {0}
StartBelow c (e ∷ es) = (e.start < c) × StartBelow c es

-- 1 for an event that does not end before m, and 0 for any other
abbrev pub late : {R : Type 0} → ℕ → Event R → ℕ
late m e = cond (nat_le m e.end) 1 0

-- the weight of an event that starts below c is that of what is known of it there
abbrev pub IsSteady : {R : Type 0} → (Event R → ℕ) → ℕ → Type 0
IsSteady {R} w c = (e : Event R) → e.start < c → seen w c e ≡ w e

module _ {R : Type 0} (w : Event R → ℕ) (c : ℕ) where
  seen_all : IsSteady w c → (a : List (Event R)) → StartBelow c a → total (seen w c) a ≡ total w a
  seen_all steady [] low = refl
  seen_all steady (e ∷ a) low = (let h = steady e low.0 in let t = seen_all steady a low.1 in omega (arith, h, t))

  seen_none : (e : Event R) → c ≤ e.start → seen w c e ≡ 0
  seen_none e high = ap (λ b. total w (cond b (record { row = e.row; start = e.start; end = cond (nat_lt e.end c) e.end inf } ∷ []) [])) (le-ltb e.start c high)

  seen_little : IsSteady w c → (b : List (Event R)) → total (seen w c) b ≤ total w b
  seen_little steady b = total_le (seen w c) w b one
    where
      one : (e : Event R) → seen w c e ≤ w e
      one e = elim (cases_lt e.start c) [
        | inl low ↦ (let h = steady e low in omega (arith, h))
        | inr high ↦ (let h = seen_none e high in omega (arith, h))
      ]

  -- a list of events that start below c weighs no more than one of which the same is known below c
  pub known_le : IsSteady w c → (a b : List (Event R)) → StartBelow c a → Known c a b → total w a ≤ total w b
  known_le steady a b low k =
      let x = seen_all steady a low in
      let y = seen_little steady b in
      let z : total (seen w c) a ≡ total (seen w c) b = sym (total-cut w c a) ∙ k.same.weigh w ∙ total-cut w c b in
      omega (arith, x, y, z)

  -- a weight by row and start alone is steady
  pub start_steady : ((row : R) (s x y : ℕ) → w (record { row = row; start = s; end = x }) ≡ w (record { row = row; start = s; end = y })) → IsSteady w c
  start_steady same e low =
      let t : nat_lt e.start c ≡ true = lt-ltb e.start c low in
      let h : w (record { row = e.row; start = e.start; end = cond (nat_lt e.end c) e.end inf }) ≡ w e = same e.row e.start (cond (nat_lt e.end c) e.end inf) e.end in
      ap (λ b. total w (cond b (record { row = e.row; start = e.start; end = cond (nat_lt e.end c) e.end inf } ∷ []) [])) t ∙ (let g : w (record { row = e.row; start = e.start; end = cond (nat_lt e.end c) e.end inf }) + 0 ≡ w e = omega (arith, h) in g)

late_steady : {R : Type 0} (m c : ℕ) → m ≤ c → c ≤ inf → IsSteady {R = R} (late m) c
late_steady m c low within e early = grind (arith, nat_tests)

pub reach_known : {R : Type 0} (m c : ℕ) (a b : List (Event R)) → m ≤ c → StartBelow c a → Known c a b → reaching m a ≤ reaching m b
reach_known m c a b low start k = known_le (late m) c (late_steady m c low k.low) a b start k

-- NEW ROWS, AND EVENTS MADE ONE BY ONE
pub start_map : {R S : Type 0} (c : ℕ) (f : Event R → Event S) → ((e : Event R) → (f e).start ≡ e.start) → (es : List (Event R)) → StartBelow c es → StartBelow c (map f es)
start_map c f same [] low = tt
start_map c f same (e ∷ es) low = (subst (λ s. s < c) (sym (same e)) low.0, start_map c f same es low.1)

pub reach_map : {R S : Type 0} (m : ℕ) (f : Event R → Event S) → ((e : Event R) → (f e).end ≡ e.end) → (es : List (Event R)) → reaching m (map f es) ≡ reaching m es
reach_map m f same [] = refl
reach_map m f same (e ∷ es) = (let h = reach_map m f same es in let s = ap (λ t. cond {A = ℕ} (nat_le m t) 1 0) (same e) in omega (arith, h, s))

pub each_known : {R S : Type 0} (one : Event R → List (Event S)) (m c : ℕ) (a b : List (Event R)) → StartBelow c a → Known c a b → IsSteady (λ e. total (late m) (one e)) c →
    reaching m (flat_map one a) ≤ reaching m (flat_map one b)
each_known one m c a b low k steady =
    let h = known_le (λ e. total (late m) (one e)) c steady a b low k in
    let p = total-flat_map (late m) one a in
    let q = total-flat_map (late m) one b in
    omega (arith, h, p, q)

pub hop_known : {R : Type 0} (size period m c : ℕ) (a b : List (Event R)) → StartBelow c a → Known c a b → reaching m (hopped size period a) ≤ reaching m (hopped size period b)
hop_known size period m c a b low k = each_known (hopped_one size period) m c a b low k (start_steady (λ e. total (late m) (hopped_one size period e)) c (λ row s x y. refl))

pub lasting_known : {R : Type 0} (by m c : ℕ) (a b : List (Event R)) → StartBelow c a → Known c a b → reaching m (lasting by a) ≤ reaching m (lasting by b)
lasting_known by m c a b low k = each_known (lasting_one by) m c a b low k (start_steady (λ e. total (late m) (lasting_one by e)) c (λ row s x y. refl))

-- an event that is alive before c and does not end before c counts, however much later it ends
extended_counts : {R : Type 0} (by c : ℕ) (e : Event R) → e.start < c → c ≤ e.end → c ≤ inf → total (late c) (extended_one by e) ≡ 1
extended_counts by c e low high within =
    let t : nat_lt e.start (later by e.end) ≡ true = lt-ltb e.start (later by e.end) (omega arith) in
    let u : nat_le c (later by e.end) ≡ true = le-leb c (later by e.end) (omega arith) in
    rw (t, u) refl

extended_steady : {R : Type 0} (by c : ℕ) → c ≤ inf → IsSteady {R = R} (λ e. total (late c) (extended_one by e)) c
extended_steady {R} by c within e low =
    ap (λ b. total W (cond b (record { row = e.row; start = e.start; end = cond (nat_lt e.end c) e.end inf } ∷ []) [])) (lt-ltb e.start c low)
    ∙ (let g : W (record { row = e.row; start = e.start; end = cond (nat_lt e.end c) e.end inf }) + 0 ≡ W e = (let h = same (cases_lt e.end c) in omega (arith, h)) in g)
  where
    W : Event R → ℕ
    W x = total (late c) (extended_one by x)

    same : (e.end < c) ⊎ (c ≤ e.end) → W (record { row = e.row; start = e.start; end = cond (nat_lt e.end c) e.end inf }) ≡ W e
    same (inl early) = ap (λ b. W (record { row = e.row; start = e.start; end = cond b e.end inf })) (lt-ltb e.end c early)
    same (inr high) =
        ap (λ b. W (record { row = e.row; start = e.start; end = cond b e.end inf })) (le-ltb e.end c high)
        ∙ extended_counts by c (record { row = e.row; start = e.start; end = inf }) low within within
        ∙ sym (extended_counts by c e low high within)

pub extended_known : {R : Type 0} (by c : ℕ) (a b : List (Event R)) → StartBelow c a → Known c a b → reaching c (extended by a) ≤ reaching c (extended by b)
extended_known by c a b low k = each_known (extended_one by) c c a b low k (extended_steady by c k.low)

pub sessions_start : {R K : Type 0} (key : R → K) (same : K → K → Bool) (timeout c : ℕ) (es : List (Event R)) → StartBelow c es → StartBelow c (in_sessions key same timeout es)
sessions_start key same timeout c es low = pick (nat_lt 0 timeout)
  where
    pick : (b : Bool) → StartBelow c (cond b (map (session key same timeout es) es) [])
    pick true = start_map c (session key same timeout es) (λ e. refl) es low
    pick false = tt

-- CLIPS
-- an event that starts at c or later
abbrev begins : {R : Type 0} → ℕ → Event R → ℕ
begins c e = cond (nat_lt e.start c) 0 1

two_kinds : {R : Type 0} (c : ℕ) (es : List (Event R)) → c ≤ inf → AreEvents es → reaching c es ≡ total (seen (late c) c) es + total (begins c) es
two_kinds c [] within valid = refl
two_kinds c (e ∷ es) within valid =
    let first : late c e ≡ seen (late c) c e + begins c e = one valid.0 in
    let rest = two_kinds c es within valid.2 in
    omega (arith, first, rest)
  where
    one : e.start < e.end → late c e ≡ seen (late c) c e + begins c e
    one alive = grind (arith, nat_tests)

pub clip_known : {L R : Type 0} (meets : L → R → Bool) (x c : ℕ) (a a2 : List (Event L)) (b b2 : List (Event R)) → StartBelow x a → Known x a a2 → Known c (clipped meets a b) (clipped meets a2 b2) →
    reaching c (clipped meets a b) ≤ reaching c (clipped meets a2 b2)
clip_known meets x c a a2 b b2 low k own =
    let p = two_kinds c (clipped meets a b) own.low own.left_valid in
    let q = two_kinds c (clipped meets a2 b2) own.low own.right_valid in
    let same : total (seen (late c) c) (clipped meets a b) ≡ total (seen (late c) c) (clipped meets a2 b2) =
    sym (total-cut (late c) c (clipped meets a b)) ∙ own.same.weigh (late c) ∙ total-cut (late c) c (clipped meets a2 b2) in
    let r = total-map (begins c) (clip meets b) a in
    let s = total-map (begins c) (clip meets b2) a2 in
    let t = known_le (begins c) x (start_steady (begins c) x (λ row s u v. refl)) a a2 low k in
    omega (arith, p, q, same, r, s, t)

-- THE EVENTS OF EDGES
fails_one : (c : ℕ) (x : Edge) (h : List Edge) → failing (is_below c) (x ∷ h) ≡ 0 → (x.sync < c) × (failing (is_below c) h ≡ 0)
fails_one c x h none = elim (cases_lt x.sync c) [
  | inl low ↦ (low, (let t : nat_lt x.sync c ≡ true = lt-ltb x.sync c low in let g : 0 + failing (is_below c) h ≡ 0 = subst (λ b. cond {A = ℕ} b 0 1 + failing (is_below c) h ≡ 0) t none in omega (arith, g)))
  | inr high ↦ absurd (let t : nat_lt x.sync c ≡ false = le-ltb x.sync c high in let g : 1 + failing (is_below c) h ≡ 0 = subst (λ b. cond {A = ℕ} b 0 1 + failing (is_below c) h ≡ 0) t none in omega (arith, g))
]

begun_start : (c : ℕ) (h : List Edge) → failing (is_below c) h ≡ 0 → StartBelow c (begun h)
begun_start c [] none = tt
begun_start c (x ∷ h) none =
    let one = fails_one c x h none in
    pick (not (is_end x)) one.0 (begun_start c h one.1)
  where
    pick : (b : Bool) → x.sync < c → StartBelow c (begun h) → StartBelow c (map begun_one (cond b (x ∷ filter (λ e. not (is_end e)) h) (filter (λ e. not (is_end e)) h)))
    pick true low rest = (low, rest)
    pick false low rest = rest

ended_start : (c : ℕ) (x : Edge) (es : List CellEvent) → StartBelow c es → StartBelow c (ended x es)
ended_start c x [] low = tt
ended_start c x (e ∷ es) low = pick (is_open x.cells x.other e) (ended_start c x es low.1)
  where
    pick : (b : Bool) → StartBelow c (ended x es) → StartBelow c (cond b (record { row = e.row; start = e.start; end = x.sync } ∷ es) (e ∷ ended x es))
    pick true rest = (low.0, low.1)
    pick false rest = (low.0, rest)

step_start : (c : ℕ) (x : Edge) (es : List CellEvent) → StartBelow c es → StartBelow c (end_step x es)
step_start c x es low = pick (is_end x)
  where
    pick : (b : Bool) → StartBelow c (cond b (ended x es) es)
    pick true = ended_start c x es low
    pick false = low

all_start : (c : ℕ) (h : List Edge) (es : List CellEvent) → StartBelow c es → StartBelow c (end_all h es)
all_start c [] es low = low
all_start c (x ∷ h) es low = all_start c h (end_step x es) (step_start c x es low)

-- the events of edges below c start below c
pub of_start : (c : ℕ) (h : List Edge) → failing (is_below c) h ≡ 0 → StartBelow c (of h)
of_start c h none = all_start c h (begun h) (begun_start c h none)
