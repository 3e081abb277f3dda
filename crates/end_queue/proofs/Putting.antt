-- What putting in and taking out make of the entries of a queue.
use Rattle.std.specs.Prelude.{◌≡◌, ℕ, ◌+◌, ◌<◌, ◌≤◌, nat_lt, Bool, true, false, cond, List, [], ◌∷◌, ◌++◌, map, All, Option, None, Some, slice_get, refl}
use Rattle.std.specs.declared.cmp.Ordering.{Ordering}
use Rattle.std.specs.declared.cmp.Ordering.TheVariants.{Less, Greater}
use Rattle.std.specs.BTreeMap.{insert_entry}
use Rattle.std.specs.Map.{keys_of}
use Rattle.std.specs.Ordering.{nat_cmp, ordering_then, match_ordering, is_gt}
use Rattle.std.proofs.Common.{sym, ◌∙◌, ap, arith}
use Rattle.std.proofs.lemmas.Bool.Decides.{nat_tests}
use Rattle.std.proofs.lemmas.List.Elements.{All-nil, All-cons, All-head, All-tail, All-weaker, All-get_or}
use Rattle.std.proofs.lemmas.Option.{slice_get-map, slice_get_within, get_or_from_slice_get}
use Rattle.std.specs.Option.{option_map}
use Rattle.std.proofs.lemmas.Map.Views.{All-keys-insert_entry}
use Rattle.tw_rows.specs.Instant.{inf}
use Rattle.tw_rows.specs.declared.edge.Edge.{Edge}
use Rattle.end_queue.specs.Pending.{Pending, put_pending, AreDueFrom}
use Rattle.end_queue.specs.Stored.{Stored, pending_of, IsQueue}

-- how the map orders its keys
abbrev pub key_cmp : (ℕ × ℕ) → (ℕ × ℕ) → Ordering
key_cmp k l = ordering_then (nat_cmp k.0 l.0) (nat_cmp k.1 l.1)

-- a greater number goes by the time alone
by_time : (t n u m : ℕ) → m < n → ordering_then (nat_cmp t u) (nat_cmp n m) ≡ cond (nat_lt t u) Less Greater
by_time t n u m h = grind (arith, nat_tests)

-- an entry with a number above all others goes behind those of its time
pub inserted : (es : List Stored) (t n : ℕ) (e : Edge) → All (λ k. k.1 < n) (keys_of es) →
    map pending_of (insert_entry key_cmp es (t, n) e) ≡ put_pending (record { at = t; edge = e }) (map pending_of es)
inserted [] t n e h = refl
inserted (s ∷ es) t n e h =
    ap (λ o. map pending_of (match_ordering o (((t, n), e) ∷ s ∷ es) ((s.0, e) ∷ es) (s ∷ insert_entry key_cmp es (t, n) e)))
    (by_time t n s.0.0 s.0.1 (All-head (λ (k : ℕ × ℕ). k.1 < n) s.0 (keys_of es) h))
    ∙ pick (nat_lt t s.0.0) (inserted es t n e (All-tail (λ (k : ℕ × ℕ). k.1 < n) s.0 (keys_of es) h))
  where
    pick : (b : Bool) → map pending_of (insert_entry key_cmp es (t, n) e) ≡ put_pending (record { at = t; edge = e }) (map pending_of es) →
        map pending_of (match_ordering (cond b Less Greater) (((t, n), e) ∷ s ∷ es) ((s.0, e) ∷ es) (s ∷ insert_entry key_cmp es (t, n) e))
        ≡ cond b (record { at = t; edge = e } ∷ pending_of s ∷ map pending_of es) (pending_of s ∷ put_pending (record { at = t; edge = e }) (map pending_of es))
    pick true r = refl
    pick false r = ap (λ ps. pending_of s ∷ ps) r

due_earlier : (ps : List Pending) (t u : ℕ) → u ≤ t → AreDueFrom t ps → AreDueFrom u ps
due_earlier [] t u h d = tt
due_earlier (p ∷ ps) t u h d = ((let a = d.0 in omega (arith, a, h)), d.1)

still_due : (ps : List Pending) (t : ℕ) (p : Pending) → t ≤ p.at → AreDueFrom t ps → AreDueFrom t (put_pending p ps)
still_due [] t p h d = (h, tt)
still_due (q ∷ qs) t p h d = pick (nat_lt p.at q.at) refl (λ low. still_due qs q.at p low d.1)
  where
    pick : (b : Bool) → nat_lt p.at q.at ≡ b → (q.at ≤ p.at → AreDueFrom q.at (put_pending p qs)) → AreDueFrom t (cond b (p ∷ q ∷ qs) (q ∷ put_pending p qs))
    pick true i r = (h, ((let le : p.at ≤ q.at = grind (arith, nat_tests) in le), d.1))
    pick false i r = (d.0, r (let le : q.at ≤ p.at = grind (arith, nat_tests) in le))

-- all are due at the time of the first one or later
due_from : (ps : List Pending) (t u : ℕ) → u ≤ t → AreDueFrom t ps → All (λ p. u ≤ p.at) ps
due_from [] t u h d = All-nil (λ p. u ≤ p.at)
due_from (p ∷ ps) t u h d =
    let low : u ≤ p.at = let a = d.0 in omega (arith, a, h) in
    All-cons (λ p. u ≤ p.at) p ps low (due_from ps p.at u low d.1)

-- the entries after an edge is put in
pub queue_put : (old new : List Stored) (n m t u : ℕ) (e : Edge) → new ≡ insert_entry key_cmp old (u, n) e → m ≡ n + 1 → u ≡ t → t ≤ inf → IsQueue old n → IsQueue new m
queue_put old new n m t u e is next same low q = rw (is, next, same) (record {
  numbers = All-keys-insert_entry key_cmp (t, n) e (λ k. k.1 < n + 1) old
      (All-weaker (λ (k : ℕ × ℕ). k.1 < n) (λ (k : ℕ × ℕ). k.1 < n + 1) (λ k h. omega (arith, h)) (keys_of old) q.numbers) (omega arith);
  times = All-keys-insert_entry key_cmp (t, n) e (λ k. k.0 ≤ inf) old q.times low;
  order = rw (inserted old t n e q.numbers) (still_due (map pending_of old) 0 (record { at = t; edge = e }) (omega arith) q.order);
})

pub queue_shows : (old new : List Stored) (n t u : ℕ) (e : Edge) → new ≡ insert_entry key_cmp old (u, n) e → u ≡ t → IsQueue old n →
    map pending_of new ≡ put_pending (record { at = t; edge = e }) (map pending_of old)
queue_shows old new n t u e is same q = rw (is, same) (inserted old t n e q.numbers)

-- the entries after the first one is taken out
pub queue_popped : (old new : List Stored) (s : Stored) (n : ℕ) → old ≡ s ∷ new → IsQueue old n → IsQueue new n
queue_popped old new s n is q = let p : IsQueue (s ∷ new) n = rw (← is) q in record {
  numbers = All-tail (λ (k : ℕ × ℕ). k.1 < n) s.0 (keys_of new) p.numbers;
  times = All-tail (λ (k : ℕ × ℕ). k.0 ≤ inf) s.0 (keys_of new) p.times;
  order = due_earlier (map pending_of new) s.0.0 0 (omega arith) p.order.1;
}

abbrev time_or : Option Stored → ℕ
time_or None = 0
time_or (Some s) = s.0.0

pub none_due : (es : List Stored) (n : ℕ) (s : Stored) (below : ℕ) → IsQueue es n → slice_get es 0 ≡ Some s → below ≤ s.0.0 → All (λ p. below ≤ p.at) (map pending_of es)
none_due [] n s below q h low = All-nil (λ (p : Pending). below ≤ p.at)
none_due (x ∷ es) n s below q h low =
    let same : x.0.0 ≡ s.0.0 = ap time_or h in
    due_from (map pending_of (x ∷ es)) x.0.0 below (omega (arith, same, low)) (omega arith, q.order.1)

-- an entry shows its time, which is one
pub time_within : (es : List Stored) (n i : ℕ) (s : Stored) → IsQueue es n → slice_get es i ≡ Some s → s.0.0 ≤ inf
time_within es n i s q h =
    let at : slice_get (keys_of es) i ≡ Some s.0 = slice_get-map (λ (e : Stored). e.0) es i ∙ ap (option_map (λ (e : Stored). e.0)) h in
    let low = All-get_or (λ (k : ℕ × ℕ). k.0 ≤ inf) (keys_of es) i s.0 (slice_get_within (keys_of es) i s.0 at) q.times in
    let same = ap (λ (k : ℕ × ℕ). k.0) (get_or_from_slice_get (keys_of es) i s.0 s.0 at) in
    omega (arith, low, same)

abbrev at_or : Option Pending → ℕ
at_or None = 0
at_or (Some p) = p.at

pub time_shown : (es : List Stored) (i : ℕ) (s : Stored) (p : Pending) → slice_get es i ≡ Some s → slice_get (map pending_of es) i ≡ Some p → s.0.0 ≡ p.at
time_shown es i s p h g = ap at_or (sym (slice_get-map pending_of es i ∙ ap (option_map pending_of) h) ∙ g)

-- the edges of the entries, and of what they are seen as
pub edges_shown : (es : List Stored) → map (λ e. e.1) es ≡ map (λ p. p.edge) (map pending_of es)
edges_shown [] = refl
edges_shown (e ∷ es) = ap (λ l. e.1 ∷ l) (edges_shown es)

-- keys before those of a time, and keys from them on
abbrev pub is_past : ℕ → (ℕ × ℕ) → Bool
is_past below k = is_gt (ordering_then (nat_cmp below k.0) (nat_cmp 0 k.1))

past_time : (t b n : ℕ) → is_gt (ordering_then (nat_cmp b t) (nat_cmp 0 n)) ≡ true → t < b
past_time t b n h = grind (arith, nat_tests)

from_time : (t b n : ℕ) → is_gt (ordering_then (nat_cmp b t) (nat_cmp 0 n)) ≡ false → b ≤ t
from_time t b n h = grind (arith, nat_tests)

pub all_past : (es : List Stored) (u below : ℕ) → u ≡ below → All (λ k. is_past u k ≡ true) (keys_of es) → All (λ p. p.at < below) (map pending_of es)
all_past [] u below same h = All-nil (λ (p : Pending). p.at < below)
all_past (e ∷ es) u below same h =
    let here = past_time e.0.0 u e.0.1 (All-head (λ (k : ℕ × ℕ). is_past u k ≡ true) e.0 (keys_of es) h) in
    All-cons (λ (p : Pending). p.at < below) (pending_of e) (map pending_of es) (omega (arith, here, same))
    (all_past es u below same (All-tail (λ (k : ℕ × ℕ). is_past u k ≡ true) e.0 (keys_of es) h))

pub all_later : (es : List Stored) (u below : ℕ) → u ≡ below → All (λ k. is_past u k ≡ false) (keys_of es) → All (λ p. below ≤ p.at) (map pending_of es)
all_later [] u below same h = All-nil (λ (p : Pending). below ≤ p.at)
all_later (e ∷ es) u below same h =
    let here = from_time e.0.0 u e.0.1 (All-head (λ (k : ℕ × ℕ). is_past u k ≡ false) e.0 (keys_of es) h) in
    All-cons (λ (p : Pending). below ≤ p.at) (pending_of e) (map pending_of es) (omega (arith, here, same))
    (all_later es u below same (All-tail (λ (k : ℕ × ℕ). is_past u k ≡ false) e.0 (keys_of es) h))

-- the entries that are left, and those that are taken, are the entries
pub shown_parts : (es fs : List Stored) → map pending_of (es ++ fs) ≡ map pending_of es ++ map pending_of fs
shown_parts [] fs = refl
shown_parts (e ∷ es) fs = ap (λ l. pending_of e ∷ l) (shown_parts es fs)

pub queue_left : (taken left : List Stored) (n : ℕ) → IsQueue (taken ++ left) n → IsQueue left n
queue_left [] left n q = q
queue_left (s ∷ taken) left n q = queue_left taken left n (queue_popped (s ∷ (taken ++ left)) (taken ++ left) s n refl q)
