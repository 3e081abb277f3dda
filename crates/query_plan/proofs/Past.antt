-- What each step that nodes use makes of the rows that pass a test is what it makes of all rows, of which those that pass.
use Rattle.std.specs.Prelude.{◌≡◌, ℕ, zero, suc, ◌+◌, min, max, nat_lt, ℤ, int_lt, Bool, true, false, cond, not, ◌&&◌, Option, Some, None, List, [], ◌∷◌, ◌++◌, map, filter, flat_map, refl}
use Rattle.std.specs.List.{list_any}
use Rattle.std.proofs.Common.{sym, ◌∙◌, ap}
use Rattle.std.proofs.lemmas.Bool.{and_parts}
use Rattle.std.proofs.lemmas.List.Elements.{filter-append}
use Rattle.std.proofs.lemmas.Map.Views.{any-filter_same}
use Rattle.tw_rows.specs.Instant.{inf, later}
use Rattle.tw_rows.specs.Event.{Event, lives_at, alive}
use Rattle.key_nodes.specs.Runs.{Tells, runs}
use Rattle.key_nodes.specs.Groups.{distinct, grouped}
use Rattle.key_nodes.specs.Antis.{meets_none, alone_at, alone}
use Rattle.key_nodes.specs.Joins.{with_life, joined_one, joined}
use Rattle.key_nodes.specs.Sessions.{least, session_end, session, sessions}
use Rattle.key_nodes.specs.Clips.{clip, clipped}
use Rattle.key_nodes.specs.Coalesced.{how_often, rows_before, rise_times, fall_times, paired_times, row_events, rows_below, coalesced}
use Rattle.key_nodes.specs.Tops.{greater, top_rows, top}
use Rattle.key_nodes.specs.Follows.{starts_within, starts_next, followed_one, followed}
use Rattle.key_nodes.proofs.RunSteps.{runs_same}
use Rattle.key_nodes.proofs.Shards.{filter_both, weighs_all}
use Rattle.plan_model.proofs.Each.{Each, each_all}
use Rattle.plan_laws.proofs.RowsOf.{Rows, or_else, each_flat_map, each_distinct, rows_with_life, rows_cond, runs_rows}
use Rattle.plan_laws.proofs.Maps.{filter_to}

-- the events whose rows pass
abbrev pub kept : {R : Type 0} → (R → Bool) → List (Event R) → List (Event R)
kept q es = filter (λ e. q e.row) es

-- two filters change places, where each asks the same of what the other keeps
pub filter_past : {X : Type 0} (p p' q : X → Bool) → ((x : X) → q x ≡ true → p x ≡ p' x) → (xs : List X) →
    filter p (filter q xs) ≡ filter q (filter p' xs)
filter_past p p' q h [] = refl
filter_past p p' q h (x ∷ xs) = pick (q x) (p' x) refl refl (filter_past p p' q h xs)
  where
    pick : (b c : Bool) → q x ≡ b → p' x ≡ c → filter p (filter q xs) ≡ filter q (filter p' xs) →
        filter p (cond b (x ∷ filter q xs) (filter q xs)) ≡ filter q (cond c (x ∷ filter p' xs) (filter p' xs))
    pick true true e f k = rw (h x e ∙ f, e) (ap (λ l. x ∷ l) k)
    pick true false e f k = rw (h x e ∙ f) k
    pick false true e f k = rw (e) k
    pick false false e f k = k

pub filter_all : {X : Type 0} (r : X → Bool) (b : Bool) (xs : List X) → Each (λ x. r x ≡ b) xs →
    filter r xs ≡ cond b xs []
filter_all r true [] h = refl
filter_all r false [] h = refl
filter_all r true (x ∷ xs) h = rw (h.0) (ap (λ l. x ∷ l) (filter_all r true xs h.1))
filter_all r false (x ∷ xs) h = rw (h.0) (filter_all r false xs h.1)

pub flat_map_past : {X Y : Type 0} (P : X → Type 0) (q : X → Bool) (g g' : X → List Y) (r : Y → Bool) →
    ((x : X) → P x → filter r (g x) ≡ cond (q x) (g' x) []) → (xs : List X) → Each P xs →
    flat_map g' (filter q xs) ≡ filter r (flat_map g xs)
flat_map_past P q g g' r h [] k = refl
flat_map_past P q g g' r h (x ∷ xs) k =
    out (q x) (flat_map_past P q g g' r h xs k.1)
    ∙ sym (filter-append r (g x) (flat_map g xs) ∙ ap (λ l. l ++ filter r (flat_map g xs)) (h x k.0))
  where
    out : (b : Bool) → flat_map g' (filter q xs) ≡ filter r (flat_map g xs) →
        flat_map g' (cond b (x ∷ filter q xs) (filter q xs)) ≡ cond b (g' x) [] ++ filter r (flat_map g xs)
    out true e = ap (λ l. g' x ++ l) e
    out false e = e

pub map_past : {X Y : Type 0} (P : X → Type 0) (q : X → Bool) (g g' : X → Y) (r : Y → Bool) →
    ((x : X) → P x → r (g x) ≡ q x) → ((x : X) → q x ≡ true → g' x ≡ g x) → (xs : List X) → Each P xs →
    map g' (filter q xs) ≡ filter r (map g xs)
map_past P q g g' r h same [] k = refl
map_past P q g g' r h same (x ∷ xs) k = out (q x) refl (map_past P q g g' r h same xs k.1)
  where
    out : (b : Bool) → q x ≡ b → map g' (filter q xs) ≡ filter r (map g xs) →
        map g' (cond b (x ∷ filter q xs) (filter q xs)) ≡ filter r (g x ∷ map g xs)
    out true e k' = rw (h x k.0 ∙ e) (ap (λ y. y ∷ map g' (filter q xs)) (same x e) ∙ ap (λ l. g x ∷ l) k')
    out false e k' = rw (h x k.0 ∙ e) k'

-- what makes nothing of those that do not pass makes all of those that do
pub flat_map_drop : {X Y : Type 0} (q : X → Bool) (f : X → List Y) → ((x : X) → q x ≡ false → f x ≡ []) → (xs : List X) →
    flat_map f (filter q xs) ≡ flat_map f xs
flat_map_drop q f h [] = refl
flat_map_drop q f h (x ∷ xs) = out (q x) refl (flat_map_drop q f h xs)
  where
    out : (b : Bool) → q x ≡ b → flat_map f (filter q xs) ≡ flat_map f xs →
        flat_map f (cond b (x ∷ filter q xs) (filter q xs)) ≡ f x ++ flat_map f xs
    out true e k = ap (λ l. f x ++ l) k
    out false e k = k ∙ sym (ap (λ l. l ++ flat_map f xs) (h x e))

-- a choice between a list and none, by its first case
pub cond_past : {X : Type 0} (b : Bool) (xs ys : List X) → (b ≡ true → xs ≡ ys) → cond b xs [] ≡ cond b ys []
cond_past true xs ys h = h refl
cond_past false xs ys h = refl

pub alive_past : {R : Type 0} (q : R → Bool) (es : List (Event R)) (t : ℕ) → alive (kept q es) t ≡ filter q (alive es t)
alive_past q es t =
    ap (map (λ e. e.row)) (filter_past (lives_at t) (lives_at t) (λ e. q e.row) (λ e h. refl) es)
    ∙ sym (filter_to (λ e. e.row) (λ e. q e.row) q (λ e. refl) (filter (lives_at t) es))

-- new lives
pub lives_past : {R : Type 0} (q : R → Bool) (g : Event R → List (Event R)) → ((e : Event R) → Rows (λ r. q r ≡ q e.row) (g e)) →
    (es : List (Event R)) → flat_map g (kept q es) ≡ kept q (flat_map g es)
lives_past q g h es =
    flat_map_past (λ e. Unit {0}) (λ e. q e.row) g g (λ e. q e.row) (λ e u. filter_all (λ d. q d.row) (q e.row) (g e) (h e)) es
    (each_all (λ e. Unit {0}) es (λ e. tt))

module _ {R K : Type 0} (key : R → K) (same : K → K → Bool) (q : R → Bool)
    (alike : (a b : R) → same (key a) (key b) ≡ true → q a ≡ q b) where
  pub sessions_past : (timeout : ℕ) (es : List (Event R)) →
      sessions key same timeout (kept q es) ≡ kept q (sessions key same timeout es)
  sessions_past timeout es =
      map_past (λ e. Unit {0}) (λ e. q e.row) (session key same timeout es) (session key same timeout (kept q es)) (λ e. q e.row)
      (λ e u. refl)
      (λ e is. ap (λ l. record { row = e.row; start = e.start; end = session_end timeout (map (λ x. x.start) l) e.start })
      (filter_both (λ x. same (key e.row) (key x.row)) (λ x. q x.row) es (λ x k. sym (alike e.row x.row k) ∙ is)))
      es (each_all (λ e. Unit {0}) es (λ e. tt))

-- nodes with two sides
module _ {L R : Type 0} (meets : L → R → Bool) (ql : L → Bool) (qr : R → Bool)
    (alike : (l : L) (r : R) → meets l r ≡ true → ql l ≡ qr r) where
  pub clipped_past : (ls : List (Event L)) (rs : List (Event R)) →
      clipped meets (kept ql ls) (kept qr rs) ≡ kept ql (clipped meets ls rs)
  clipped_past ls rs =
      map_past (λ e. Unit {0}) (λ e. ql e.row) (clip meets rs) (clip meets (kept qr rs)) (λ e. ql e.row) (λ e u. refl)
      (λ e is. ap (λ l. record { row = e.row; start = e.start; end = least e.end (map (λ r. r.start) l) })
      (filter_both (λ r. meets e.row r.row && nat_lt e.start r.start) (λ r. qr r.row) rs
      (λ r k. sym (alike e.row r.row (and_parts (meets e.row r.row) (nat_lt e.start r.start) k).0) ∙ is)))
      ls (each_all (λ e. Unit {0}) ls (λ e. tt))

  alone_row : (rs : List (Event R)) (e : Event L) (t : ℕ) (r : L) (b : Bool) → cond b (Some e.row) None ≡ Some r →
      ql r ≡ ql e.row
  alone_row rs e t r true at = sym (ap (λ o. ql (or_else r o)) at)
  alone_row rs e t r false at = absurd (cc)

  pub alone_past : (same_row : L → L → Bool) (ls : List (Event L)) (rs : List (Event R)) →
      alone same_row meets (kept ql ls) (kept qr rs) ≡ kept ql (alone same_row meets ls rs)
  alone_past same_row ls rs =
      flat_map_past (λ e. Unit {0}) (λ e. ql e.row) (λ e. runs same_row (alone_at meets rs e) inf)
      (λ e. runs same_row (alone_at meets (kept qr rs) e) inf) (λ e. ql e.row)
      (λ e u.
      filter_all (λ d. ql d.row) (ql e.row) (runs same_row (alone_at meets rs e) inf)
      (runs_rows (λ r. ql r ≡ ql e.row) same_row (alone_at meets rs e) inf
      (λ t r at. alone_row rs e t r (lives_at t e && meets_none meets (alive rs t) e.row) at))
      ∙ cond_past (ql e.row) (runs same_row (alone_at meets rs e) inf) (runs same_row (alone_at meets (kept qr rs) e) inf)
      (λ is. runs_same same_row (alone_at meets rs e) (alone_at meets (kept qr rs) e) inf (λ t _.
      ap (λ b. cond (lives_at t e && not b) (Some e.row) None)
      (sym (ap (list_any (meets e.row)) (alive_past qr rs t)
      ∙ any-filter_same (meets e.row) qr true (λ r k. sym (alike e.row r k) ∙ is) (alive rs t))))))
      ls (each_all (λ e. Unit {0}) ls (λ e. tt))

  module _ {P : Type 0} (pair : L → R → P) (qp : P → Bool) (A : L → Type 0)
      (paired : (l : L) (r : R) → A l → qp (pair l r) ≡ ql l) where
    joined_rows_pass : (a : Event L) → A a.row → (b : Event R) (m : Bool) →
        Rows (λ p. qp p ≡ ql a.row) (cond m (with_life (pair a.row b.row) (max a.start b.start) (min a.end b.end)) [])
    joined_rows_pass a h b true =
        rows_with_life (λ p. qp p ≡ ql a.row) (pair a.row b.row) (max a.start b.start) (min a.end b.end) (paired a.row b.row h)
    joined_rows_pass a h b false = tt

    each_pair : (f : Event R → List (Event P)) (a : Event L) → ((b : Event R) → Rows (λ p. qp p ≡ ql a.row) (f b)) →
        (rs : List (Event R)) → Rows (λ p. qp p ≡ ql a.row) (flat_map f rs)
    each_pair f a h rs =
        each_flat_map (λ b. Unit {0}) (λ e. qp e.row ≡ ql a.row) f (λ b u. h b) rs (each_all (λ b. Unit {0}) rs (λ b. tt))

    -- a right row that does not pass makes no pair with a left row that does
    no_pair : {X : Type 0} (a : Event L) (b : Event R) → ql a.row ≡ true → qr b.row ≡ false → (m : Bool) → meets a.row b.row ≡ m →
        (xs : List X) → cond m xs [] ≡ []
    no_pair a b is other true k xs = absurd (let z = alike a.row b.row k in cc)
    no_pair a b is other false k xs = refl

    pub joined_past : (ls : List (Event L)) (rs : List (Event R)) → Rows A ls →
        joined meets pair (kept ql ls) (kept qr rs) ≡ kept qp (joined meets pair ls rs)
    joined_past ls rs h =
        flat_map_past (λ a. A a.row) (λ a. ql a.row) (λ a. flat_map (joined_one meets pair a) rs)
        (λ a. flat_map (joined_one meets pair a) (kept qr rs)) (λ e. qp e.row)
        (λ a k.
        filter_all (λ e. qp e.row) (ql a.row) (flat_map (joined_one meets pair a) rs)
        (each_pair (joined_one meets pair a) a (λ b. joined_rows_pass a k b (meets a.row b.row)) rs)
        ∙ cond_past (ql a.row) (flat_map (joined_one meets pair a) rs) (flat_map (joined_one meets pair a) (kept qr rs))
        (λ is. sym (flat_map_drop (λ b. qr b.row) (joined_one meets pair a)
        (λ b other. no_pair a b is other (meets a.row b.row) refl
        (with_life (pair a.row b.row) (max a.start b.start) (min a.end b.end))) rs)))
        ls h

    next_past : (within : ℕ) (rs : List (Event R)) (a : Event L) (b : Event R) → ql a.row ≡ true →
        followed_one meets pair within (kept qr rs) a b ≡ followed_one meets pair within rs a b
    next_past within rs a b is =
        ap (λ n. cond (starts_within meets within a b && not n)
        (record { row = pair a.row b.row; start = b.start; end = later within a.start } ∷ []) [])
        (any-filter_same (λ c. starts_within meets within a c && nat_lt c.start b.start) (λ c. qr c.row) true
        (λ c k. sym (alike a.row c.row
        (and_parts (meets a.row c.row) (nat_lt a.start c.start && nat_lt c.start (a.start + within))
        (and_parts (starts_within meets within a c) (nat_lt c.start b.start) k).0).0) ∙ is) rs)

    flat_map_agree : {X Y : Type 0} (f g : X → List Y) → ((x : X) → f x ≡ g x) → (xs : List X) → flat_map f xs ≡ flat_map g xs
    flat_map_agree f g h xs = λ i. flat_map (λ x. h x i) xs

    not_next : (within : ℕ) (rs : List (Event R)) (a : Event L) (b : Event R) → ql a.row ≡ true → qr b.row ≡ false → (m : Bool) →
        meets a.row b.row ≡ m → (c d : Bool) (xs : List (Event P)) → cond ((m && c) && d) xs [] ≡ []
    not_next within rs a b is other true k c d xs = absurd (let z = alike a.row b.row k in cc)
    not_next within rs a b is other false k c d xs = refl

    pub followed_past : (within : ℕ) (ls : List (Event L)) (rs : List (Event R)) → Rows A ls →
        followed meets pair within (kept ql ls) (kept qr rs) ≡ kept qp (followed meets pair within ls rs)
    followed_past within ls rs h =
        flat_map_past (λ a. A a.row) (λ a. ql a.row) (λ a. flat_map (followed_one meets pair within rs a) rs)
        (λ a. flat_map (followed_one meets pair within (kept qr rs) a) (kept qr rs)) (λ e. qp e.row)
        (λ a k.
        filter_all (λ e. qp e.row) (ql a.row) (flat_map (followed_one meets pair within rs a) rs)
        (each_pair (followed_one meets pair within rs a) a
        (λ b. rows_cond (λ p. qp p ≡ ql a.row) (starts_next meets within rs a b)
        (record { row = pair a.row b.row; start = b.start; end = later within a.start }) (paired a.row b.row k)) rs)
        ∙ cond_past (ql a.row) (flat_map (followed_one meets pair within rs a) rs)
        (flat_map (followed_one meets pair within (kept qr rs) a) (kept qr rs))
        (λ is. sym (flat_map_agree (followed_one meets pair within (kept qr rs) a) (followed_one meets pair within rs a)
        (λ b. next_past within rs a b is) (kept qr rs)
        ∙ flat_map_drop (λ b. qr b.row) (followed_one meets pair within rs a)
        (λ b other. not_next within rs a b is other (meets a.row b.row) refl
        (nat_lt a.start b.start && nat_lt b.start (a.start + within))
        (not (list_any (λ c. starts_within meets within a c && nat_lt c.start b.start) rs))
        (record { row = pair a.row b.row; start = b.start; end = later within a.start } ∷ [])) rs)))
        ls h

-- groups
module _ {K : Type 0} (same : K → K → Bool) (tells : Tells same) (q : K → Bool) where
  pub alike_past : (a b : K) → same a b ≡ true → q a ≡ q b
  alike_past a b h = ap q ((tells a b).0 h)

  pub distinct_past : (ks : List K) → distinct same (filter q ks) ≡ filter q (distinct same ks)
  distinct_past [] = refl
  distinct_past (k ∷ ks) = pick (q k) (list_any (same k) ks) refl refl (distinct_past ks)
    where
      pick : (b c : Bool) → q k ≡ b → list_any (same k) ks ≡ c → distinct same (filter q ks) ≡ filter q (distinct same ks) →
          distinct same (cond b (k ∷ filter q ks) (filter q ks)) ≡ filter q (cond c (distinct same ks) (k ∷ distinct same ks))
      pick true true e f h =
          rw (any-filter_same (same k) q true (λ j t. sym (alike_past k j t) ∙ e) ks ∙ f) h
      pick true false e f h =
          rw (any-filter_same (same k) q true (λ j t. sym (alike_past k j t) ∙ e) ks ∙ f, e) (ap (λ l. k ∷ l) h)
      pick false true e f h = h
      pick false false e f h = rw (e) h

module _ {R K S : Type 0} (key : R → K) (same : K → K → Bool) (same_row : S → S → Bool) (tell : K → List R → Option S)
    (tells : Tells same) (qk : K → Bool) (qs : S → Bool) (Q : K → Type 0) (keys : (r : R) → Q (key r))
    (told : (k : K) → Q k → (rows : List R) (s : S) → tell k rows ≡ Some s → qs s ≡ qk k)
    (own : (k : K) (rows : List R) → qk k ≡ true → tell k (filter (λ r. qk (key r)) rows) ≡ tell k rows) where
  abbrev group_runs : List (Event R) → K → List (Event S)
  group_runs es k = runs same_row (λ t. tell k (alive es t)) inf

  each_key : (es : List (Event R)) → Each Q (map (λ e. key e.row) es)
  each_key [] = tt
  each_key (e ∷ es) = (keys e.row, each_key es)

  pub grouped_past : (es : List (Event R)) →
      grouped key same same_row tell (kept (λ r. qk (key r)) es) ≡ kept qs (grouped key same same_row tell es)
  grouped_past es =
      ap (flat_map (group_runs (kept (λ r. qk (key r)) es)))
      (ap (distinct same) (sym (filter_to (λ e. key e.row) (λ e. qk (key e.row)) qk (λ e. refl) es))
      ∙ distinct_past same tells qk (map (λ e. key e.row) es))
      ∙ flat_map_past Q qk (group_runs es) (group_runs (kept (λ r. qk (key r)) es)) (λ e. qs e.row)
      (λ k is.
      filter_all (λ e. qs e.row) (qk k) (group_runs es k)
      (runs_rows (λ s. qs s ≡ qk k) same_row (λ t. tell k (alive es t)) inf (λ t s at. told k is (alive es t) s at))
      ∙ cond_past (qk k) (group_runs es k) (group_runs (kept (λ r. qk (key r)) es) k)
      (λ pass. runs_same same_row (λ t. tell k (alive es t)) (λ t. tell k (alive (kept (λ r. qk (key r)) es) t)) inf
      (λ t _. sym (ap (tell k) (alive_past (λ r. qk (key r)) es t) ∙ own k (alive es t) pass))))
      (distinct same (map (λ e. key e.row) es)) (each_distinct same Q (map (λ e. key e.row) es) (each_key es))

-- coalesced events
module _ {R : Type 0} (same : R → R → Bool) (tells : Tells same) (q : R → Bool) (rows part : ℕ → List R)
    (each : (t : ℕ) → part t ≡ filter q (rows t)) where
  pub apart : (r : R) → q r ≡ true → (x : R) → q x ≡ false → (b : Bool) → same r x ≡ b → cond {A = ℕ} b 1 0 ≡ 0
  apart r pass x other true k = absurd (let z = alike_past same tells q r x k in cc)
  apart r pass x other false k = refl

  pub often_past : (r : R) → q r ≡ true → (t : ℕ) → how_often same r (part t) ≡ how_often same r (rows t)
  often_past r pass t =
      ap (how_often same r) (each t)
      ∙ weighs_all (λ x. cond (same r x) 1 0) q (rows t) (λ x other. apart r pass x other (same r x) refl)

  before_past : (r : R) → q r ≡ true → (t : ℕ) → how_often same r (rows_before part t) ≡ how_often same r (rows_before rows t)
  before_past r pass zero = refl
  before_past r pass (suc t) = often_past r pass t

  rises_past : (r : R) → q r ≡ true → (n : ℕ) → rise_times same part r n ≡ rise_times same rows r n
  rises_past r pass zero = refl
  rises_past r pass (suc t) = rw (rises_past r pass t, often_past r pass t, before_past r pass t) refl

  falls_past : (r : R) → q r ≡ true → (n : ℕ) → fall_times same part r n ≡ fall_times same rows r n
  falls_past r pass zero = refl
  falls_past r pass (suc t) = rw (falls_past r pass t, before_past r pass t, often_past r pass t) refl

  below_past : (n : ℕ) → rows_below part n ≡ filter q (rows_below rows n)
  below_past zero = refl
  below_past (suc t) = rw (below_past t, each t) (sym (filter-append q (rows_below rows t) (rows t)))

  paired_rows : (r : R) (starts ends : List ℕ) → Rows (λ x. q x ≡ q r) (paired_times r starts ends)
  paired_rows r [] ends = tt
  paired_rows r (s ∷ starts) [] = (refl, paired_rows r starts [])
  paired_rows r (s ∷ starts) (e ∷ ends) = (refl, paired_rows r starts ends)

  pub coalesced_past : coalesced same part ≡ kept q (coalesced same rows)
  coalesced_past =
      ap (flat_map (row_events same part inf)) (ap (distinct same) (below_past inf) ∙ distinct_past same tells q (rows_below rows inf))
      ∙ flat_map_past (λ r. Unit {0}) q (row_events same rows inf) (row_events same part inf) (λ e. q e.row)
      (λ r u.
      filter_all (λ e. q e.row) (q r) (row_events same rows inf r)
      (paired_rows r (rise_times same rows r inf) (fall_times same rows r inf))
      ∙ cond_past (q r) (row_events same rows inf r) (row_events same part inf r)
      (λ pass. sym (ap (λ l. paired_times r l (fall_times same part r inf)) (rises_past r pass inf)
      ∙ ap (paired_times r (rise_times same rows r inf)) (falls_past r pass inf))))
      (distinct same (rows_below rows inf)) (each_all (λ r. Unit {0}) (distinct same (rows_below rows inf)) (λ r. tt))

module _ {R : Type 0} (same : R → R → Bool) (tells : Tells same) (meets : R → R → Bool) (value : R → ℤ) (q : R → Bool)
    (alike : (a b : R) → meets a b ≡ true → q a ≡ q b) where
  none_greater : (r : R) → q r ≡ true → (x : R) → q x ≡ false → (b c : Bool) → meets r x ≡ b → cond {A = ℕ} (b && c) 1 0 ≡ 0
  none_greater r pass x other true c k = absurd (let z = alike r x k in cc)
  none_greater r pass x other false c k = refl

  top_rows_past : (count : ℕ) (rows : List R) →
      top_rows meets value count (filter q rows) ≡ filter q (top_rows meets value count rows)
  top_rows_past count rows =
      filter_past (λ r. nat_lt (greater meets value (filter q rows) r) count) (λ r. nat_lt (greater meets value rows r) count) q
      (λ r pass. ap (λ n. nat_lt n count)
      (weighs_all (λ x. cond (meets r x && int_lt (value r) (value x)) 1 0) q rows
      (λ x other. none_greater r pass x other (meets r x) (int_lt (value r) (value x)) refl))) rows

  pub top_past : (count : ℕ) (es : List (Event R)) →
      top same meets value count (kept q es) ≡ kept q (top same meets value count es)
  top_past count es =
      coalesced_past same tells q (λ t. top_rows meets value count (alive es t))
      (λ t. top_rows meets value count (alive (kept q es) t))
      (λ t. ap (top_rows meets value count) (alive_past q es t) ∙ top_rows_past count (alive es t))
