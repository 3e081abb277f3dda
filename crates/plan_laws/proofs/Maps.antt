-- Rows replaced: what each step that nodes use makes of events with their rows replaced, where what the step asks of rows
-- stays as it was, is what it makes of the events, with their rows replaced.
use Rattle.std.specs.Prelude.{◌≡◌, ℕ, zero, suc, min, max, nat_eq, nat_lt, Bool, true, false, cond, not, ◌&&◌, ◌||◌, Option, Some, None, List, [], ◌∷◌, ◌++◌, map, filter, flat_map, refl}
use Rattle.std.specs.List.{list_any}
use Rattle.std.specs.Option.{option_map}
use Rattle.std.proofs.Common.{sym, ◌∙◌, ap}
use Rattle.std.proofs.lemmas.List.{map-append}
use Rattle.tw_rows.specs.Instant.{inf, later, floor_to}
use Rattle.tw_rows.specs.Event.{Event, lives_at, alive, AreEvents, cut_one, cut}
use Rattle.key_nodes.specs.Runs.{goes_on, runs}
use Rattle.key_nodes.specs.Groups.{distinct, grouped}
use Rattle.key_nodes.specs.Antis.{alone_at, alone}
use Rattle.key_nodes.specs.Sessions.{least, session_end, key_starts, session, sessions}
use Rattle.key_nodes.specs.Clips.{later_starts, clip, clipped}
use Rattle.key_nodes.specs.Joins.{with_life, joined_one, joined}
use Rattle.plan_model.specs.Lives.{moved, hopped, lasting, extended, in_sessions}
use Rattle.plan_model.specs.Nodes.{event_to, events_to}

pub map_to : {A B C D : Type 0} (h : A → B) (k : C → D) (g : A → C) (g' : B → D) → ((x : A) → g' (h x) ≡ k (g x)) → (xs : List A) → map g' (map h xs) ≡ map k (map g xs)
map_to h k g g' e [] = refl
map_to h k g g' e (x ∷ xs) = ap (λ y. y ∷ map g' (map h xs)) (e x) ∙ ap (λ l. k (g x) ∷ l) (map_to h k g g' e xs)

pub map_map : {X Y Z : Type 0} (f : X → Y) (g : Y → Z) (xs : List X) → map g (map f xs) ≡ map (λ x. g (f x)) xs
map_map f g [] = refl
map_map f g (x ∷ xs) = ap (λ l. g (f x) ∷ l) (map_map f g xs)

pub flat_map_to : {A B C D : Type 0} (h : A → B) (k : C → D) (g : A → List C) (g' : B → List D) → ((x : A) → g' (h x) ≡ map k (g x)) → (xs : List A) → flat_map g' (map h xs) ≡ map k (flat_map g xs)
flat_map_to h k g g' e [] = refl
flat_map_to h k g g' e (x ∷ xs) =
    ap (λ l. l ++ flat_map g' (map h xs)) (e x)
    ∙ (ap (λ l. map k (g x) ++ l) (flat_map_to h k g g' e xs) ∙ sym (map-append k (g x) (flat_map g xs)))

pub filter_to : {A B : Type 0} (h : A → B) (p : A → Bool) (q : B → Bool) → ((x : A) → q (h x) ≡ p x) → (xs : List A) → filter q (map h xs) ≡ map h (filter p xs)
filter_to h p q e [] = refl
filter_to h p q e (x ∷ xs) = ap (λ b. cond b (h x ∷ filter q (map h xs)) (filter q (map h xs))) (e x) ∙ (ap (λ l. cond (p x) (h x ∷ l) l) (filter_to h p q e xs) ∙ out (p x))
  where
    out : (b : Bool) → cond b (h x ∷ map h (filter p xs)) (map h (filter p xs)) ≡ map h (cond b (x ∷ filter p xs) (filter p xs))
    out true = refl
    out false = refl

pub any_to : {A B : Type 0} (h : A → B) (p : A → Bool) (q : B → Bool) → ((x : A) → q (h x) ≡ p x) → (xs : List A) → list_any q (map h xs) ≡ list_any p xs
any_to h p q e [] = refl
any_to h p q e (x ∷ xs) = ap (λ b. b || list_any q (map h xs)) (e x) ∙ ap (λ b. p x || b) (any_to h p q e xs)

-- lives
pub with_life_to : {R S : Type 0} (f : R → S) (r : R) (start end : ℕ) → with_life (f r) start end ≡ map (event_to f) (with_life r start end)
with_life_to f r start end = out (nat_lt start end)
  where
    out : (b : Bool) → cond b (record { row = f r; start = start; end = end } ∷ []) [] ≡ map (event_to f) (cond b (record { row = r; start = start; end = end } ∷ []) [])
    out true = refl
    out false = refl

pub alive_to : {R S : Type 0} (f : R → S) (es : List (Event R)) (t : ℕ) → alive (events_to f es) t ≡ map f (alive es t)
alive_to f es t = ap (map (λ e. e.row)) (filter_to (event_to f) (lives_at t) (lives_at t) (λ e. refl) es) ∙ map_to (event_to f) f (λ e. e.row) (λ e. e.row) (λ e. refl) (filter (lives_at t) es)

pub cut_to : {R S : Type 0} (f : R → S) (c : ℕ) (es : List (Event R)) → cut c (events_to f es) ≡ events_to f (cut c es)
cut_to f c es = flat_map_to (event_to f) (event_to f) (cut_one c) (cut_one c) (λ e. out e (nat_lt e.start c)) es
  where
    out : (e : Event _) (b : Bool) → cond b (record { row = f e.row; start = e.start; end = cond (nat_lt e.end c) e.end inf } ∷ []) [] ≡ map (event_to f) (cond b (record { row = e.row; start = e.start; end = cond (nat_lt e.end c) e.end inf } ∷ []) [])
    out e true = refl
    out e false = refl

pub AreEvents-to : {R S : Type 0} (f : R → S) (es : List (Event R)) → AreEvents es → AreEvents (events_to f es)
AreEvents-to f [] v = tt
AreEvents-to f (e ∷ es) v = (v.0, v.1, AreEvents-to f es v.2)

-- joins
pub joined_to : {L R P L' R' P' : Type 0} (f : L → L') (g : R → R') (k : P → P') (meets : L → R → Bool) (meets' : L' → R' → Bool) (pair : L → R → P) (pair' : L' → R' → P') →
    ((a : L) (b : R) → meets' (f a) (g b) ≡ meets a b) → ((a : L) (b : R) → pair' (f a) (g b) ≡ k (pair a b)) → (ls : List (Event L)) (rs : List (Event R)) →
    joined meets' pair' (events_to f ls) (events_to g rs) ≡ events_to k (joined meets pair ls rs)
joined_to f g k meets meets' pair pair' em ep ls rs =
    flat_map_to (event_to f) (event_to k) (λ a. flat_map (joined_one meets pair a) rs) (λ a. flat_map (joined_one meets' pair' a) (events_to g rs))
    (λ a. flat_map_to (event_to g) (event_to k) (joined_one meets pair a) (joined_one meets' pair' (event_to f a)) (one a) rs) ls
  where
    out : (a : Event _) (b : Event _) (c : Bool) → cond c (with_life (k (pair a.row b.row)) (max a.start b.start) (min a.end b.end)) [] ≡ map (event_to k) (cond c (with_life (pair a.row b.row) (max a.start b.start) (min a.end b.end)) [])
    out a b true = with_life_to k (pair a.row b.row) (max a.start b.start) (min a.end b.end)
    out a b false = refl

    one : (a : Event _) (b : Event _) → joined_one meets' pair' (event_to f a) (event_to g b) ≡ map (event_to k) (joined_one meets pair a b)
    one a b =
        ap (λ c. cond c (with_life (pair' (f a.row) (g b.row)) (max a.start b.start) (min a.end b.end)) []) (em a.row b.row)
        ∙ (ap (λ r. cond (meets a.row b.row) (with_life r (max a.start b.start) (min a.end b.end)) []) (ep a.row b.row) ∙ out a b (meets a.row b.row))

-- runs
goes_on_to : {R S : Type 0} (f : R → S) (same : R → R → Bool) (same' : S → S → Bool) → ((a b : R) → same' (f a) (f b) ≡ same a b) → (o : Option R) (t : ℕ) (es : List (Event R)) →
    goes_on same' (option_map f o) t (events_to f es) ≡ events_to f (goes_on same o t es)
goes_on_to f same same' e None t es = refl
goes_on_to f same same' e (Some r) t [] = refl
goes_on_to f same same' e (Some r) t (d ∷ es) =
    ap (λ b. cond (nat_eq d.end t && b) (record { row = f d.row; start = d.start; end = suc t } ∷ events_to f es) (record { row = f r; start = t; end = suc t } ∷ event_to f d ∷ events_to f es)) (e d.row r)
    ∙ out (nat_eq d.end t && same d.row r)
  where
    out : (b : Bool) → cond b (record { row = f d.row; start = d.start; end = suc t } ∷ events_to f es) (record { row = f r; start = t; end = suc t } ∷ event_to f d ∷ events_to f es)
        ≡ events_to f (cond b (record { row = d.row; start = d.start; end = suc t } ∷ es) (record { row = r; start = t; end = suc t } ∷ d ∷ es))
    out true = refl
    out false = refl

pub runs_to : {R S : Type 0} (f : R → S) (same : R → R → Bool) (same' : S → S → Bool) → ((a b : R) → same' (f a) (f b) ≡ same a b) →
    (u : ℕ → Option R) (v : ℕ → Option S) → ((t : ℕ) → v t ≡ option_map f (u t)) → (n : ℕ) → runs same' v n ≡ events_to f (runs same u n)
runs_to f same same' e u v h zero = refl
runs_to f same same' e u v h (suc n) =
    ap (λ o. goes_on same' o n (runs same' v n)) (h n)
    ∙ (ap (goes_on same' (option_map f (u n)) n) (runs_to f same same' e u v h n) ∙ goes_on_to f same same' e (u n) n (runs same u n))

-- groups
pub distinct_to : {K L : Type 0} (f : K → L) (same : K → K → Bool) (same' : L → L → Bool) → ((a b : K) → same' (f a) (f b) ≡ same a b) → (ks : List K) → distinct same' (map f ks) ≡ map f (distinct same ks)
distinct_to f same same' e [] = refl
distinct_to f same same' e (k ∷ ks) =
    ap (λ b. cond b (distinct same' (map f ks)) (f k ∷ distinct same' (map f ks))) (any_to f (same k) (same' (f k)) (e k) ks)
    ∙ (ap (λ l. cond (list_any (same k) ks) l (f k ∷ l)) (distinct_to f same same' e ks) ∙ out (list_any (same k) ks))
  where
    out : (b : Bool) → cond b (map f (distinct same ks)) (f k ∷ map f (distinct same ks)) ≡ map f (cond b (distinct same ks) (k ∷ distinct same ks))
    out true = refl
    out false = refl

pub grouped_to : {R K S R' K' S' : Type 0} (f : R → R') (g : K → K') (h : S → S') (key : R → K) (key' : R' → K') (same : K → K → Bool) (same' : K' → K' → Bool)
    (same_row : S → S → Bool) (same_row' : S' → S' → Bool) (tell : K → List R → Option S) (tell' : K' → List R' → Option S') →
    ((r : R) → key' (f r) ≡ g (key r)) → ((a b : K) → same' (g a) (g b) ≡ same a b) → ((a b : S) → same_row' (h a) (h b) ≡ same_row a b) →
    ((k : K) (rows : List R) → tell' (g k) (map f rows) ≡ option_map h (tell k rows)) → (es : List (Event R)) →
    grouped key' same' same_row' tell' (events_to f es) ≡ events_to h (grouped key same same_row tell es)
grouped_to f g h key key' same same' same_row same_row' tell tell' ek es' er et es =
    ap (flat_map (λ k. runs same_row' (λ t. tell' k (alive (events_to f es) t)) inf))
    (ap (distinct same') (map_to (event_to f) g (λ e. key e.row) (λ e. key' e.row) (λ e. ek e.row) es) ∙ distinct_to g same same' es' (map (λ e. key e.row) es))
    ∙ flat_map_to g (event_to h) (λ k. runs same_row (λ t. tell k (alive es t)) inf) (λ k. runs same_row' (λ t. tell' k (alive (events_to f es) t)) inf)
    (λ k. runs_to h same_row same_row' er (λ t. tell k (alive es t)) (λ t. tell' (g k) (alive (events_to f es) t)) (λ t. ap (tell' (g k)) (alive_to f es t) ∙ et k (alive es t)) inf)
    (distinct same (map (λ e. key e.row) es))

-- anti-joins
pub alone_to : {L R L' R' : Type 0} (f : L → L') (g : R → R') (same : L → L → Bool) (same' : L' → L' → Bool) (meets : L → R → Bool) (meets' : L' → R' → Bool) →
    ((a b : L) → same' (f a) (f b) ≡ same a b) → ((a : L) (b : R) → meets' (f a) (g b) ≡ meets a b) → (ls : List (Event L)) (rs : List (Event R)) →
    alone same' meets' (events_to f ls) (events_to g rs) ≡ events_to f (alone same meets ls rs)
alone_to f g same same' meets meets' e em ls rs =
    flat_map_to (event_to f) (event_to f) (λ x. runs same (alone_at meets rs x) inf) (λ x. runs same' (alone_at meets' (events_to g rs) x) inf)
    (λ x. runs_to f same same' e (alone_at meets rs x) (alone_at meets' (events_to g rs) (event_to f x)) (one x) inf) ls
  where
    out : (x : Event _) (b : Bool) → cond b (Some (f x.row)) None ≡ option_map f (cond b (Some x.row) None)
    out x true = refl
    out x false = refl

    one : (x : Event _) (t : ℕ) → alone_at meets' (events_to g rs) (event_to f x) t ≡ option_map f (alone_at meets rs x t)
    one x t =
        ap (λ l. cond (lives_at t x && not (list_any (meets' (f x.row)) l)) (Some (f x.row)) None) (alive_to g rs t)
        ∙ (ap (λ b. cond (lives_at t x && not b) (Some (f x.row)) None) (any_to g (meets x.row) (meets' (f x.row)) (em x.row) (alive rs t))
        ∙ out x (lives_at t x && not (list_any (meets x.row) (alive rs t))))

-- sessions and clips: the numbers stay
pub sessions_to : {R K R' K' : Type 0} (f : R → R') (g : K → K') (key : R → K) (key' : R' → K') (same : K → K → Bool) (same' : K' → K' → Bool) (timeout : ℕ) →
    ((r : R) → key' (f r) ≡ g (key r)) → ((a b : K) → same' (g a) (g b) ≡ same a b) → (es : List (Event R)) →
    sessions key' same' timeout (events_to f es) ≡ events_to f (sessions key same timeout es)
sessions_to f g key key' same same' timeout ek e es =
    map_to (event_to f) (event_to f) (session key same timeout es) (session key' same' timeout (events_to f es))
    (λ x. ap (λ l. record { row = f x.row; start = x.start; end = session_end timeout l x.start }) (starts x)) es
  where
    starts : (x : Event _) → key_starts key' same' (events_to f es) (key' (f x.row)) ≡ key_starts key same es (key x.row)
    starts x =
        ap (map (λ y. y.start)) (filter_to (event_to f) (λ y. same (key x.row) (key y.row)) (λ y. same' (key' (f x.row)) (key' y.row))
        (λ y. ap (λ k. same' k (key' (f y.row))) (ek x.row) ∙ (ap (same' (g (key x.row))) (ek y.row) ∙ e (key x.row) (key y.row))) es)
        ∙ map_map (event_to f) (λ y. y.start) (filter (λ y. same (key x.row) (key y.row)) es)

pub clipped_to : {L R L' R' : Type 0} (f : L → L') (g : R → R') (meets : L → R → Bool) (meets' : L' → R' → Bool) →
    ((a : L) (b : R) → meets' (f a) (g b) ≡ meets a b) → (ls : List (Event L)) (rs : List (Event R)) →
    clipped meets' (events_to f ls) (events_to g rs) ≡ events_to f (clipped meets ls rs)
clipped_to f g meets meets' em ls rs =
    map_to (event_to f) (event_to f) (clip meets rs) (clip meets' (events_to g rs))
    (λ x. ap (λ l. record { row = f x.row; start = x.start; end = least x.end l }) (starts x)) ls
  where
    starts : (x : Event _) → later_starts meets' (events_to g rs) (event_to f x) ≡ later_starts meets rs x
    starts x =
        ap (map (λ y. y.start)) (filter_to (event_to g) (λ y. meets x.row y.row && nat_lt x.start y.start) (λ y. meets' (f x.row) y.row && nat_lt x.start y.start)
        (λ y. ap (λ b. b && nat_lt x.start y.start) (em x.row y.row)) rs)
        ∙ map_map (event_to g) (λ y. y.start) (filter (λ y. meets x.row y.row && nat_lt x.start y.start) rs)

-- lives
pub moved_to : {R S : Type 0} (f : R → S) (by : ℕ) (es : List (Event R)) → moved by (events_to f es) ≡ events_to f (moved by es)
moved_to f by es = flat_map_to (event_to f) (event_to f) _ _ (λ e. with_life_to f e.row (later by e.start) (later by e.end)) es

pub hopped_to : {R S : Type 0} (f : R → S) (size period : ℕ) (es : List (Event R)) → hopped size period (events_to f es) ≡ events_to f (hopped size period es)
hopped_to f size period es = flat_map_to (event_to f) (event_to f) _ _ (λ e. with_life_to f e.row (floor_to period e.start) (later size (floor_to period e.start))) es

pub lasting_to : {R S : Type 0} (f : R → S) (by : ℕ) (es : List (Event R)) → lasting by (events_to f es) ≡ events_to f (lasting by es)
lasting_to f by es = flat_map_to (event_to f) (event_to f) _ _ (λ e. with_life_to f e.row e.start (later by e.start)) es

pub extended_to : {R S : Type 0} (f : R → S) (by : ℕ) (es : List (Event R)) → extended by (events_to f es) ≡ events_to f (extended by es)
extended_to f by es = flat_map_to (event_to f) (event_to f) _ _ (λ e. with_life_to f e.row e.start (later by e.end)) es

pub in_sessions_to : {R K R' K' : Type 0} (f : R → R') (g : K → K') (key : R → K) (key' : R' → K') (same : K → K → Bool) (same' : K' → K' → Bool) (timeout : ℕ) →
    ((r : R) → key' (f r) ≡ g (key r)) → ((a b : K) → same' (g a) (g b) ≡ same a b) → (es : List (Event R)) →
    in_sessions key' same' timeout (events_to f es) ≡ events_to f (in_sessions key same timeout es)
in_sessions_to f g key key' same same' timeout ek e es = ap (λ l. cond (nat_lt 0 timeout) l []) (sessions_to f g key key' same same' timeout ek e es) ∙ out (nat_lt 0 timeout)
  where
    out : (b : Bool) → cond b (events_to f (sessions key same timeout es)) [] ≡ events_to f (cond b (sessions key same timeout es) [])
    out true = refl
    out false = refl
