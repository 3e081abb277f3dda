-- What holds of the rows that are read holds of the rows of what each step makes.
use Rattle.std.specs.Prelude.{◌≡◌, ℕ, zero, suc, max, min, nat_eq, nat_lt, Bool, true, false, cond, ◌&&◌, Option, Some, None, List, [], ◌∷◌, map, filter, flat_map, refl}
use Rattle.std.specs.List.{list_any}
use Rattle.std.proofs.Common.{ap, subst}
use Rattle.tw_rows.specs.Instant.{inf, later}
use Rattle.tw_rows.specs.Event.{Event, lives_at, alive}
use Rattle.key_nodes.specs.Runs.{goes_on, runs}
use Rattle.key_nodes.specs.Groups.{distinct, grouped}
use Rattle.key_nodes.specs.Antis.{meets_none, alone_at, alone}
use Rattle.key_nodes.specs.Joins.{with_life, joined_one, joined}
use Rattle.key_nodes.specs.Coalesced.{rise_times, fall_times, paired_times, row_events, rows_below, coalesced}
use Rattle.key_nodes.specs.Follows.{starts_next, followed_one, followed}
use Rattle.plan_model.proofs.Each.{Each, each_append}

-- of the row of each event
abbrev pub Rows : {R : Type 0} → (R → Type 0) → List (Event R) → Type 0
Rows P es = Each (λ e. P e.row) es

pub each_map : {X Y : Type 0} (P : X → Type 0) (Q : Y → Type 0) (f : X → Y) → ((x : X) → P x → Q (f x)) → (xs : List X) →
    Each P xs → Each Q (map f xs)
each_map P Q f h [] k = tt
each_map P Q f h (x ∷ xs) k = (h x k.0, each_map P Q f h xs k.1)

pub each_filter : {X : Type 0} (P : X → Type 0) (p : X → Bool) (xs : List X) → Each P xs → Each P (filter p xs)
each_filter P p [] h = tt
each_filter P p (x ∷ xs) h = pick (p x) (each_filter P p xs h.1)
  where
    pick : (b : Bool) → Each P (filter p xs) → Each P (cond b (x ∷ filter p xs) (filter p xs))
    pick true k = (h.0, k)
    pick false k = k

pub each_flat_map : {X Y : Type 0} (P : X → Type 0) (Q : Y → Type 0) (f : X → List Y) →
    ((x : X) → P x → Each Q (f x)) → (xs : List X) → Each P xs → Each Q (flat_map f xs)
each_flat_map P Q f h [] k = tt
each_flat_map P Q f h (x ∷ xs) k = each_append Q (f x) (flat_map f xs) (h x k.0) (each_flat_map P Q f h xs k.1)

pub each_distinct : {K : Type 0} (same : K → K → Bool) (P : K → Type 0) (ks : List K) → Each P ks → Each P (distinct same ks)
each_distinct same P [] h = tt
each_distinct same P (k ∷ ks) h = pick (list_any (same k) ks) (each_distinct same P ks h.1)
  where
    pick : (b : Bool) → Each P (distinct same ks) → Each P (cond b (distinct same ks) (k ∷ distinct same ks))
    pick true rest = rest
    pick false rest = (h.0, rest)

pub rows_cond : {R : Type 0} (P : R → Type 0) (b : Bool) (e : Event R) → P e.row → Rows P (cond b (e ∷ []) [])
rows_cond P true e h = (h, tt)
rows_cond P false e h = tt

pub rows_with_life : {R : Type 0} (P : R → Type 0) (row : R) (start end : ℕ) → P row → Rows P (with_life row start end)
rows_with_life P row start end h = rows_cond P (nat_lt start end) (record { row = row; start = start; end = end }) h

pub rows_alive : {R : Type 0} (P : R → Type 0) (es : List (Event R)) (t : ℕ) → Rows P es → Each P (alive es t)
rows_alive P es t h =
    each_map (λ e. P e.row) P (λ e. e.row) (λ e k. k) (filter (lives_at t) es) (each_filter (λ e. P e.row) (lives_at t) es h)

-- runs
module _ {R : Type 0} (P : R → Type 0) (same_row : R → R → Bool) where
  goes_on_rows : (o : Option R) (t : ℕ) (es : List (Event R)) → ((r : R) → o ≡ Some r → P r) → Rows P es →
      Rows P (goes_on same_row o t es)
  goes_on_rows None t es h k = k
  goes_on_rows (Some r) t [] h k = (h r refl, tt)
  goes_on_rows (Some r) t (e ∷ es) h k = pick (nat_eq e.end t && same_row e.row r)
    where
      pick : (b : Bool) →
          Rows P
          (cond b (record { row = e.row; start = e.start; end = suc t } ∷ es)
          (record { row = r; start = t; end = suc t } ∷ e ∷ es))
      pick true = (k.0, k.1)
      pick false = (h r refl, k)

  pub runs_rows : (f : ℕ → Option R) (n : ℕ) → ((t : ℕ) (r : R) → f t ≡ Some r → P r) → Rows P (runs same_row f n)
  runs_rows f zero h = tt
  runs_rows f (suc t) h = goes_on_rows (f t) t (runs same_row f t) (h t) (runs_rows f t h)

pub grouped_rows_hold : {R K S : Type 0} (key : R → K) (same : K → K → Bool) (same_row : S → S → Bool)
    (tell : K → List R → Option S) (Q : K → Type 0) (P : S → Type 0) → ((r : R) → Q (key r)) →
    ((k : K) → Q k → (rows : List R) (s : S) → tell k rows ≡ Some s → P s) → (es : List (Event R)) →
    Rows P (grouped key same same_row tell es)
grouped_rows_hold key same same_row tell Q P keys told es =
    each_flat_map Q (λ e. P e.row) (λ k. runs same_row (λ t. tell k (alive es t)) inf)
    (λ k q. runs_rows P same_row (λ t. tell k (alive es t)) inf (λ t s h. told k q (alive es t) s h))
    (distinct same (map (λ e. key e.row) es)) (each_distinct same Q (map (λ e. key e.row) es) (all es))
  where
    all : (es : List (Event _)) → Each Q (map (λ e. key e.row) es)
    all [] = tt
    all (e ∷ es) = (keys e.row, all es)

abbrev pub or_else : {X : Type 0} → X → Option X → X
or_else d None = d
or_else d (Some x) = x

pub alone_rows_hold : {L R : Type 0} (P : L → Type 0) (same_row : L → L → Bool) (meets : L → R → Bool)
    (ls : List (Event L)) (rs : List (Event R)) → Rows P ls → Rows P (alone same_row meets ls rs)
alone_rows_hold {L} P same_row meets ls rs h =
    each_flat_map (λ e. P e.row) (λ e. P e.row) (λ e. runs same_row (alone_at meets rs e) inf)
    (λ e k. runs_rows P same_row (alone_at meets rs e) inf
    (λ t r at. pick e k r (lives_at t e && meets_none meets (alive rs t) e.row) at)) ls h
  where
    pick : (e : Event L) → P e.row → (r : L) (b : Bool) → cond b (Some e.row) None ≡ Some r → P r
    pick e k r true at = subst P (ap (or_else r) at) k
    pick e k r false at = absurd (cc)

-- coalesced events
module _ {R : Type 0} (P : R → Type 0) (same : R → R → Bool) (rows : ℕ → List R) where
  paired_rows_hold : (r : R) (starts ends : List ℕ) → P r → Rows P (paired_times r starts ends)
  paired_rows_hold r [] ends h = tt
  paired_rows_hold r (s ∷ starts) [] h = (h, paired_rows_hold r starts [] h)
  paired_rows_hold r (s ∷ starts) (e ∷ ends) h = (h, paired_rows_hold r starts ends h)

  below_hold : ((t : ℕ) → Each P (rows t)) → (n : ℕ) → Each P (rows_below rows n)
  below_hold h zero = tt
  below_hold h (suc t) = each_append P (rows_below rows t) (rows t) (below_hold h t) (h t)

  pub coalesced_rows_hold : ((t : ℕ) → Each P (rows t)) → Rows P (coalesced same rows)
  coalesced_rows_hold h =
      each_flat_map P (λ e. P e.row) (row_events same rows inf)
      (λ r k. paired_rows_hold r (rise_times same rows r inf) (fall_times same rows r inf) k)
      (distinct same (rows_below rows inf)) (each_distinct same P (rows_below rows inf) (below_hold h inf))

-- pairs
module _ {L R S : Type 0} (A : L → Type 0) (B : R → Type 0) (P : S → Type 0) (meets : L → R → Bool) (pair : L → R → S)
    (pairs : (l : L) (r : R) → A l → B r → P (pair l r)) where
  pub joined_rows_hold : (ls : List (Event L)) (rs : List (Event R)) → Rows A ls → Rows B rs →
      Rows P (joined meets pair ls rs)
  joined_rows_hold ls rs h k =
      each_flat_map (λ e. A e.row) (λ e. P e.row) (λ a. flat_map (joined_one meets pair a) rs)
      (λ a u. each_flat_map (λ e. B e.row) (λ e. P e.row) (joined_one meets pair a)
      (λ b v. pick (meets a.row b.row) a b (pairs a.row b.row u v)) rs k) ls h
    where
      pick : (c : Bool) (a : Event L) (b : Event R) → P (pair a.row b.row) →
          Rows P (cond c (with_life (pair a.row b.row) (max a.start b.start) (min a.end b.end)) [])
      pick true a b p = rows_with_life P (pair a.row b.row) (max a.start b.start) (min a.end b.end) p
      pick false a b p = tt

  pub followed_rows_hold : (within : ℕ) (ls : List (Event L)) (rs : List (Event R)) → Rows A ls → Rows B rs →
      Rows P (followed meets pair within ls rs)
  followed_rows_hold within ls rs h k =
      each_flat_map (λ e. A e.row) (λ e. P e.row) (λ a. flat_map (followed_one meets pair within rs a) rs)
      (λ a u. each_flat_map (λ e. B e.row) (λ e. P e.row) (followed_one meets pair within rs a)
      (λ b v. rows_cond P (starts_next meets within rs a b)
      (record { row = pair a.row b.row; start = b.start; end = later within a.start }) (pairs a.row b.row u v)) rs k) ls h
