-- Of each change of lives: what is alive after it, and what is known of its events.
use Rattle.std.specs.Prelude.{◌≡◌, ℕ, ◌+◌, zero, suc, ◌-◌, ◌*◌, ◌/◌, ◌<◌, ◌≤◌, nat_lt, nat_le, Bool, true, false, cond, List, [], ◌∷◌, flat_map, refl}
use Rattle.std.proofs.Common.{sym, ◌∙◌, ap, arith, inl, inr}
use Rattle.std.proofs.lemmas.Bool.{cases_lt, ltb-true, lt-ltb, le-ltb}
use Rattle.std.proofs.lemmas.Bool.Decides.{nat_tests}
use Rattle.std.proofs.lemmas.Nat.{le-div}
use Rattle.std.proofs.Common.{div-mul-le_self, mul-le-mul_left, div-add-mod', mod-lt}
use Rattle.tw_rows.specs.Instant.{inf, later, floor_to}
use Rattle.tw_rows.specs.Bag.{total, SameBag}
use Rattle.tw_rows.specs.Event.{Event, lives_at, alive, AreEvents, cut_one, cut, Known}
use Rattle.tw_rows.proofs.Bags.{SameBag-refl, total-flat_map, total_same, total_zero}
use Rattle.tw_rows.proofs.Lives.{total-alive, AreEvents-append, causal_from_one}
use Rattle.key_nodes.specs.Joins.{with_life}
use Rattle.key_nodes.specs.Sessions.{sessions}
use Rattle.key_nodes.proofs.Sessioning.{sessions_known}
use Rattle.plan_model.specs.Lives.{moved_one, moved, hopped_one, hopped, lasting_one, lasting, extended_one, extended, in_sessions}

-- what is alive of one moved event
moved_one_alive : {R : Type 0} (w : R → ℕ) (by t : ℕ) (e : Event R) → t < inf → total (λ x. cond (lives_at t x) (w x.row) 0) (moved_one by e) ≡ cond (nat_le by t) (cond (lives_at (t - by) e) (w e.row) 0) 0
moved_one_alive w by t e low = grind (arith, nat_tests)

pub total_cond : {X : Type 0} (b : Bool) (w : X → ℕ) (xs : List X) → total (λ x. cond b (w x) 0) xs ≡ cond b (total w xs) 0
total_cond true w xs = refl
total_cond false w xs = total_zero xs

total_of_cond : {X : Type 0} (w : X → ℕ) (b : Bool) (xs : List X) → cond b (total w xs) 0 ≡ total w (cond b xs [])
total_of_cond w true xs = refl
total_of_cond w false xs = refl

-- the rows that are alive of the moved events at t are those of the events at t - by, and none before `by`
pub alive-moved : {R : Type 0} (by : ℕ) (es : List (Event R)) (rows : ℕ → List R) (t : ℕ) → t < inf → ((u : ℕ) → u < inf → SameBag (alive es u) (rows u)) → SameBag (alive (moved by es) t) (cond (nat_le by t) (rows (t - by)) [])
alive-moved by es rows t low h = record {
  weigh = λ w.
      total-alive w (moved by es) t
      ∙ (total-flat_map (λ e. cond (lives_at t e) (w e.row) 0) (moved_one by) es
      ∙ (total_same _ _ es (λ e. moved_one_alive w by t e low)
      ∙ (total_cond (nat_le by t) (λ e. cond (lives_at (t - by) e) (w e.row) 0) es
      ∙ (ap (λ n. cond (nat_le by t) n 0) (sym (total-alive w es (t - by)) ∙ (h (t - by) (omega arith)).weigh w)
      ∙ total_of_cond w (nat_le by t) (rows (t - by))))));
}

pub AreEvents-each : {Q R : Type 0} (one : Event Q → List (Event R)) → ((e : Event Q) → e.start < e.end → e.end ≤ inf → AreEvents (one e)) → (es : List (Event Q)) → AreEvents es → AreEvents (flat_map one es)
AreEvents-each one h [] v = tt
AreEvents-each one h (e ∷ es) v = AreEvents-append (one e) (flat_map one es) (h e v.0 v.1) (AreEvents-each one h es v.2)

pub AreEvents-with_life : {R : Type 0} (row : R) (start end : ℕ) → end ≤ inf → AreEvents (with_life row start end)
AreEvents-with_life {R} row start end high = one (nat_lt start end) (ltb-true start end)
  where
    one : (b : Bool) → (b ≡ true → start < end) → AreEvents (cond b (record { row = row; start = start; end = end } ∷ []) [])
    one true h = (h refl, high, tt)
    one false h = tt

-- a change that takes its events one by one keeps what is known, from c to d
module _ {R : Type 0} (one : Event R → List (Event R)) (c d : ℕ) (low : d ≤ inf) (valid : (e : Event R) → AreEvents (one e))
    (known : (w : Event R → ℕ) (e : Event R) → e.start < inf → total w (cut d (one e)) ≡ total (λ x. total w (cut d (one x))) (cut_one c e)) where
  known_each : (a b : List (Event R)) → Known c a b → Known d (flat_map one a) (flat_map one b)
  known_each a b h = record {
    low = low;
    left_valid = AreEvents-each one (λ e _ _. valid e) a h.left_valid;
    right_valid = AreEvents-each one (λ e _ _. valid e) b h.right_valid;
    same = causal_from_one (flat_map one) one c d (λ w es. total-flat_map w one es) known a b h.left_valid h.right_valid h.same;
  }

moved_one_known : {R : Type 0} (w : Event R → ℕ) (by c : ℕ) (e : Event R) → e.start < inf → total w (cut (later by c) (moved_one by e)) ≡ total (λ x. total w (cut (later by c) (moved_one by x))) (cut_one c e)
moved_one_known w by c e low = grind (arith, nat_tests)

pub Known-moved : {R : Type 0} (by c : ℕ) (a b : List (Event R)) → Known c a b → Known (later by c) (moved by a) (moved by b)
Known-moved by c = known_each (moved_one by) c (later by c) (omega arith) (λ e. AreEvents-with_life e.row (later by e.start) (later by e.end) (omega arith)) (λ w e low. moved_one_known w by c e low)

extended_one_known : {R : Type 0} (w : Event R → ℕ) (by c : ℕ) (e : Event R) → c ≤ inf → e.start < inf → total w (cut c (extended_one by e)) ≡ total (λ x. total w (cut c (extended_one by x))) (cut_one c e)
extended_one_known w by c e high low = grind (arith, nat_tests)

pub Known-extended : {R : Type 0} (by c : ℕ) (a b : List (Event R)) → Known c a b → Known c (extended by a) (extended by b)
Known-extended by c a b h = known_each (extended_one by) c c h.low (λ e. AreEvents-with_life e.row e.start (later by e.end) (omega arith)) (λ w e low. extended_one_known w by c e h.low low) a b h

-- a life that depends on the start alone: nothing of it is known where the start is not
late_known : {R : Type 0} (w : Event R → ℕ) (row : R) (start end d : ℕ) → d ≤ start → total w (cut d (with_life row start end)) ≡ 0
late_known w row start end d late = grind (arith, nat_tests)

start_known : {R : Type 0} (f g : ℕ → ℕ) (w : Event R → ℕ) (c d : ℕ) (e : Event R) → (c ≤ e.start → d ≤ f e.start) →
    total w (cut d (with_life e.row (f e.start) (g e.start))) ≡ total (λ x. total w (cut d (with_life x.row (f x.start) (g x.start)))) (cut_one c e)
start_known f g w c d e late = elim (cases_lt e.start c) [
  | inl before ↦ let n = total w (cut d (with_life e.row (f e.start) (g e.start))) in grind (arith, nat_tests)
  | inr after ↦ let none = late_known w e.row (f e.start) (g e.start) d (late after) in grind (arith, nat_tests)
]

pub Known-lasting : {R : Type 0} (by c : ℕ) (a b : List (Event R)) → Known c a b → Known c (lasting by a) (lasting by b)
Known-lasting by c a b h = known_each (lasting_one by) c c h.low (λ e. AreEvents-with_life e.row e.start (later by e.start) (omega arith)) (λ w e low. start_known (λ s. s) (later by) w c c e (λ late. late)) a b h

multiple_rises : (p c s : ℕ) → c ≤ s → p * (c / p) ≤ p * (s / p)
multiple_rises zero c s h = omega arith
multiple_rises (suc p) c s h = mul-le-mul_left (suc p) (le-div (c / suc p) s (suc p) (omega arith) (let below = div-mul-le_self c (suc p) in omega (arith, below)))

pub floor_rises : (p c s : ℕ) → c ≤ s → s ≤ inf → floor_to p c ≤ floor_to p s
floor_rises p c s h low = let rises = multiple_rises p c s h in let below = div-mul-le_self c p in grind (arith, nat_tests)

pub multiple_low : (p c : ℕ) → p * (c / p) ≤ c
multiple_low p c = let below = div-mul-le_self c p in omega (arith, below)

floor_instant : (p s : ℕ) → s < inf → floor_to p s < inf
floor_instant p s h = let low = multiple_low p s in grind (arith, nat_tests)

pub floor_low : (p c : ℕ) → c ≤ inf → floor_to p c ≤ inf
floor_low p c h = let low = multiple_low p c in grind (arith, nat_tests)

pub Known-hopped : {R : Type 0} (size p c : ℕ) (a b : List (Event R)) → Known c a b → Known (floor_to p c) (hopped size p a) (hopped size p b)
Known-hopped size p c a b h = known_each (hopped_one size p) c (floor_to p c) (floor_low p c h.low) (λ e. AreEvents-with_life e.row (floor_to p e.start) (later size (floor_to p e.start)) (omega arith))
    (λ w e low. start_known (floor_to p) (λ s. later size (floor_to p s)) w c (floor_to p c) e (λ late. floor_rises p c e.start late (omega (arith, low)))) a b h

with_life-is : {R : Type 0} (row : R) (start end : ℕ) → start < end → with_life row start end ≡ record { row = row; start = start; end = end } ∷ []
with_life-is {R} row start end before = ap (λ b. cond b (event ∷ []) []) (lt-ltb start end before)
  where
    event : Event R
    event = record { row = row; start = start; end = end }

-- where a new life is not empty there is one event
pub moved_one-is : {R : Type 0} (by : ℕ) (e : Event R) → e.start < e.end → e.start + by < inf → moved_one by e ≡ record { row = e.row; start = e.start + by; end = later by e.end } ∷ []
moved_one-is by e life low =
    let start : later by e.start ≡ e.start + by = omega (arith, low) in
    ap (λ s. with_life e.row s (later by e.end)) start ∙ with_life-is e.row (e.start + by) (later by e.end) (omega (arith, life, low))

pub hopped_one-is : {R : Type 0} (size period : ℕ) (e : Event R) → 1 ≤ size → e.start < inf → hopped_one size period e ≡ record { row = e.row; start = floor_to period e.start; end = later size (floor_to period e.start) } ∷ []
hopped_one-is size period e sized low = with_life-is e.row (floor_to period e.start) (later size (floor_to period e.start)) (let start = floor_instant period e.start low in omega (arith, start, sized))

pub lasting_one-is : {R : Type 0} (by : ℕ) (e : Event R) → 1 ≤ by → e.start < inf → lasting_one by e ≡ record { row = e.row; start = e.start; end = later by e.start } ∷ []
lasting_one-is by e sized low = with_life-is e.row e.start (later by e.start) (omega (arith, sized, low))

pub extended_one-is : {R : Type 0} (by : ℕ) (e : Event R) → e.start < e.end → e.end ≤ inf → extended_one by e ≡ record { row = e.row; start = e.start; end = later by e.end } ∷ []
extended_one-is by e life high = with_life-is e.row e.start (later by e.end) (omega (arith, life, high))

-- an event that would start at infinity is none
pub moved_one-none : {R : Type 0} (by : ℕ) (e : Event R) → inf ≤ e.start + by → moved_one by e ≡ []
moved_one-none by e late = grind (arith, nat_tests)

-- a time rounded down is the greatest multiple of the period that is not above it
pub floor_to-is : (period t : ℕ) → 1 ≤ period → t < inf → (k : ℕ) × (floor_to period t ≡ period * k) × (floor_to period t ≤ t) × (t < floor_to period t + period)
floor_to-is period t positive low =
    let whole : floor_to period t ≡ period * (t / period) = ap (λ b. cond b (period * (t / period)) inf) (lt-ltb t inf low) in
    let parts = div-add-mod' t period in
    let rest = mod-lt t positive in
    (t / period, whole, omega (arith, whole, parts), omega (arith, whole, parts, rest))

-- with a timeout of at least 1 they are the sessions, and with a timeout of 0 there are none
pub in_sessions-is : {R K : Type 0} (key : R → K) (same : K → K → Bool) (timeout : ℕ) (es : List (Event R)) → 1 ≤ timeout → in_sessions key same timeout es ≡ sessions key same timeout es
in_sessions-is key same timeout es pos = rw (lt-ltb 0 timeout pos) refl

pub Known-in_sessions : {R K : Type 0} (key : R → K) (same : K → K → Bool) (timeout c : ℕ) (a b : List (Event R)) → Known c a b → Known c (in_sessions key same timeout a) (in_sessions key same timeout b)
Known-in_sessions key same timeout c a b h = elim (cases_lt 0 timeout) [
  | inl pos ↦ rw (lt-ltb 0 timeout pos) (sessions_known key same timeout pos c a b h)
  | inr none ↦ rw (le-ltb 0 timeout none) (record { low = h.low; left_valid = tt; right_valid = tt; same = SameBag-refl [] })
]
