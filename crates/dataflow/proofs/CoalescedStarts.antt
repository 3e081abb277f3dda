-- Coalesced events start where an event starts.
use Rattle.std.specs.Prelude.{◌≡◌, ℕ, zero, suc, ◌+◌, ◌-◌, ◌<◌, ◌≤◌, ◌⊎◌, Bool, true, false, cond, List, [], ◌∷◌, ◌++◌, filter, map, replicate, flat_map, refl}
use Rattle.std.proofs.Common.{ap, subst, sym, arith, inl, inr}
use Rattle.std.proofs.lemmas.Bool.{cases_lt}
use Rattle.std.proofs.lemmas.Bool.Decides.{nat_tests}
use Rattle.tw_rows.specs.Instant.{inf}
use Rattle.tw_rows.specs.Event.{Event, lives_at, alive}
use Rattle.key_nodes.specs.Groups.{distinct}
use Rattle.key_nodes.specs.Coalesced.{how_often, rows_before, rise_times, fall_times, paired_times, row_events, rows_below, coalesced}
use Rattle.dataflow.proofs.Counting.{StartBelow}

-- times below c
abbrev AreBelow : ℕ → List ℕ → Type 0
AreBelow c [] = Unit {0}
AreBelow c (t ∷ ts) = (t < c) × AreBelow c ts

below_both : (c : ℕ) (xs ys : List ℕ) → AreBelow c xs → AreBelow c ys → AreBelow c (xs ++ ys)
below_both c [] ys a b = b
below_both c (x ∷ xs) ys a b = (a.0, below_both c xs ys a.1 b)

below_often : (c t n : ℕ) → t < c → AreBelow c (replicate n t)
below_often c t zero low = tt
below_often c t (suc n) low = (low, below_often c t n low)

start_both : {R : Type 0} (c : ℕ) (xs ys : List (Event R)) → StartBelow c xs → StartBelow c ys → StartBelow c (xs ++ ys)
start_both c [] ys a b = b
start_both c (x ∷ xs) ys a b = (a.0, start_both c xs ys a.1 b)

paired_start : {R : Type 0} (c : ℕ) (r : R) (starts ends : List ℕ) → AreBelow c starts → StartBelow c (paired_times r starts ends)
paired_start c r [] ends low = tt
paired_start c r (s ∷ starts) [] low = (low.0, paired_start c r starts [] low.1)
paired_start c r (s ∷ starts) (e ∷ ends) low = (low.0, paired_start c r starts ends low.1)

module _ {R : Type 0} (same : R → R → Bool) (f : ℕ → List R) (c : ℕ) (stays : (r : R) (t : ℕ) → c ≤ t → how_often same r (f t) - how_often same r (rows_before f t) ≡ 0) where
  rises_below : (r : R) (n : ℕ) → AreBelow c (rise_times same f r n)
  rises_below r zero = tt
  rises_below r (suc t) = below_both c (rise_times same f r t) (replicate (how_often same r (f t) - how_often same r (rows_before f t)) t) (rises_below r t) (last (cases_lt t c))
    where
      last : (t < c) ⊎ (c ≤ t) → AreBelow c (replicate (how_often same r (f t) - how_often same r (rows_before f t)) t)
      last (inl low) = below_often c t (how_often same r (f t) - how_often same r (rows_before f t)) low
      last (inr high) = subst (λ n. AreBelow c (replicate n t)) (sym (stays r t high)) tt

  rows_start : (n : ℕ) (rs : List R) → StartBelow c (flat_map (row_events same f n) rs)
  rows_start n [] = tt
  rows_start n (r ∷ rs) = start_both c (row_events same f n r) (flat_map (row_events same f n) rs) (paired_start c r (rise_times same f r n) (fall_times same f r n) (rises_below r n)) (rows_start n rs)

  start_if_stays : StartBelow c (coalesced same f)
  start_if_stays = rows_start inf (distinct same (rows_below f inf))

-- of events that start before an instant no more are alive at it than before it
start_later : {R : Type 0} (c d : ℕ) (es : List (Event R)) → c ≤ d → StartBelow c es → StartBelow d es
start_later c d [] high low = tt
start_later c d (e ∷ es) high low = (omega (arith, high, low), start_later c d es high low.1)

weigh_first : {R : Type 0} (same : R → R → Bool) (r : R) (b : Bool) (e : Event R) (es : List (Event R)) →
    how_often same r (map (λ x. x.row) (cond b (e ∷ es) es)) ≡ cond b (cond (same r e.row) 1 0) 0 + how_often same r (map (λ x. x.row) es)
weigh_first same r true e es = refl
weigh_first same r false e es = omega arith

no_more : (a b : Bool) (w : ℕ) → (a ≡ true → b ≡ true) → cond a w 0 ≤ cond b w 0
no_more false b w still = omega arith
no_more true b w still = (let h = still refl in rw h (omega arith))

lives_on : {R : Type 0} (e : Event R) (u : ℕ) → e.start < suc u → lives_at (suc u) e ≡ true → lives_at u e ≡ true
lives_on e u low lives = grind (arith, nat_tests)

fewer : {R : Type 0} (same : R → R → Bool) (r : R) (u : ℕ) (es : List (Event R)) → StartBelow (suc u) es → how_often same r (alive es (suc u)) ≤ how_often same r (alive es u)
fewer same r u [] low = omega arith
fewer same r u (e ∷ es) low =
    let a = weigh_first same r (lives_at (suc u) e) e (filter (lives_at (suc u)) es) in
    let b = weigh_first same r (lives_at u e) e (filter (lives_at u) es) in
    let first = no_more (lives_at (suc u) e) (lives_at u e) (cond (same r e.row) 1 0) (lives_on e u low.0) in
    let rest = fewer same r u es low.1 in
    omega (arith, a, b, first, rest)

none_yet : {R : Type 0} (same : R → R → Bool) (r : R) (c : ℕ) (es : List (Event R)) → c ≤ 0 → StartBelow c es → how_often same r (alive es 0) ≡ 0
none_yet same r c [] none low = refl
none_yet same r c (e ∷ es) none low = absurd (omega (arith, none, low))

-- coalesced events of events that start below c do so too
pub coalesced_start : {R : Type 0} (same : R → R → Bool) (c : ℕ) (es : List (Event R)) → StartBelow c es → StartBelow c (coalesced same (alive es))
coalesced_start {R} same c es low = start_if_stays same (alive es) c stays
  where
    stays : (r : R) (t : ℕ) → c ≤ t → how_often same r (alive es t) - how_often same r (rows_before (alive es) t) ≡ 0
    stays r zero high = (let h = none_yet same r c es high low in omega (arith, h))
    stays r (suc u) high = (let h = fewer same r u es (start_later c (suc u) es high low) in omega (arith, h))

-- where no row is alive, nothing is coalesced
no_rows_below : {R : Type 0} (f : ℕ → List R) → ((t : ℕ) → f t ≡ []) → (n : ℕ) → rows_below f n ≡ []
no_rows_below f none zero = refl
no_rows_below f none (suc n) = (let a = no_rows_below f none n in let b = none n in rw (a, b) refl)

pub coalesced_none : {R : Type 0} (same : R → R → Bool) (f : ℕ → List R) → ((t : ℕ) → f t ≡ []) → coalesced same f ≡ []
coalesced_none same f none = ap (λ rs. flat_map (row_events same f inf) (distinct same rs)) (no_rows_below f none inf)
