-- The ends of sessions and of clipped events, as the least of some times.
use Rattle.std.specs.Prelude.{◌≡◌, ◌↔◌, ◌⊎◌, ℕ, ◌+◌, ◌<◌, ◌≤◌, nat_lt, nat_le, Bool, true, false, cond, not, ◌&&◌, IsTrue, List, [], ◌∷◌, map, filter, All, refl}
use Rattle.std.specs.List.{list_any}
use Rattle.std.proofs.Common.{sym, ◌∙◌, arith}
use Rattle.std.proofs.lemmas.Bool.{and_from, and_parts, or_from, or_parts, not-true, not_from_false, leb-true, le-leb, ltb-true, lt-ltb}
use Rattle.std.proofs.lemmas.Bool.Decides.{nat_tests}
use Rattle.std.proofs.lemmas.List.Elements.{All-nil, All-cons, All-head, All-tail}
use Rattle.tw_rows.specs.Instant.{inf, later}
use Rattle.tw_rows.specs.Event.{Event}
use Rattle.key_nodes.specs.Sessions.{least, any_between, session_end}
use Rattle.key_nodes.specs.Clips.{clip}
use Rattle.key_nodes.specs.Follows.{starts_within, starts_next}

module _ {X : Type 0} (f : X → ℕ) (p : X → Bool) (m t : ℕ) where
  abbrev Above : X → Type 0
  Above x = p x ≡ true → t ≤ f x

  one_more : (x : X) (b : Bool) (xs ys : List X) → p x ≡ b → (t ≤ least m (map f ys)) ↔ ((t ≤ m) × All Above xs) →
      (t ≤ least m (map f (cond b (x ∷ ys) ys))) ↔ ((t ≤ m) × All Above (x ∷ xs))
  one_more x true xs ys e h = (
    λ k. let j = h.0 (omega (arith, k)) in (j.0, All-cons Above x xs (λ _. omega (arith, k)) j.1),
    λ k. let a = All-head Above x xs k.1 e in let b = h.1 (k.0, All-tail Above x xs k.1) in omega (arith, a, b),
  )
  one_more x false xs ys e h = (
    λ k. let j = h.0 k in (j.0, All-cons Above x xs (λ z. absurd (cc)) j.1),
    λ k. h.1 (k.0, All-tail Above x xs k.1),
  )

  -- t is at most the least of m and of the numbers of those that pass, exactly where it is at most each
  pub least_of : (xs : List X) → (t ≤ least m (map f (filter p xs))) ↔ ((t ≤ m) × All Above xs)
  least_of [] = (λ k. (k, All-nil Above), λ k. k.0)
  least_of (x ∷ xs) = one_more x (p x) xs (filter p xs) refl (least_of xs)

all_from : {X : Type 0} (P Q : X → Type 0) (xs : List X) → ((x : X) → P x → Q x) → All P xs → All Q xs
all_from P Q [] f h = All-nil Q
all_from P Q (x ∷ xs) f h = All-cons Q x xs (f x (All-head P x xs h)) (all_from P Q xs f (All-tail P x xs h))

outside : (a b u : ℕ) → (nat_lt a u && nat_lt u b) ≡ false → (u ≤ a) ⊎ (b ≤ u)
outside a b u h = grind (arith, nat_tests)

not_inside : (a b u : ℕ) → (u ≤ a) ⊎ (b ≤ u) → (nat_lt a u && nat_lt u b) ≡ false
not_inside a b u h = grind (arith, nat_tests)

-- none passes exactly where what a test that fails says holds of each
pub none_passes : {X : Type 0} (p : X → Bool) (Q : X → Type 0) → ((x : X) → (p x ≡ false) ↔ Q x) → (xs : List X) →
    (list_any p xs ≡ false) ↔ All Q xs
none_passes p Q is [] = (λ h. All-nil Q, λ h. refl)
none_passes p Q is (x ∷ xs) = let rest = none_passes p Q is xs in (
  λ h. let k = or_parts (p x) (list_any p xs) h in All-cons Q x xs ((is x).0 k.0) (rest.0 k.1),
  λ h. or_from (p x) (list_any p xs) ((is x).1 (All-head Q x xs h)) (rest.1 (All-tail Q x xs h)),
)

none_between : (starts : List ℕ) (a b : ℕ) → (any_between starts a b ≡ false) ↔ All (λ u. (u ≤ a) ⊎ (b ≤ u)) starts
none_between starts a b =
    none_passes (λ u. nat_lt a u && nat_lt u b) (λ u. (u ≤ a) ⊎ (b ≤ u)) (λ u. (outside a b u, not_inside a b u)) starts

pub session_end_least : (timeout from t : ℕ) (starts : List ℕ) →
    (t ≤ session_end timeout starts from)
    ↔ ((t ≤ inf) × All (λ s. from ≤ s → All (λ u. (u ≤ s) ⊎ (s + timeout ≤ u)) starts → t ≤ later timeout s) starts)
session_end_least timeout from t starts =
    let any : ℕ → Bool = λ s. any_between starts s (s + timeout) in
    let P : ℕ → Type 0 = λ s. (nat_le from s && not (any s)) ≡ true → t ≤ later timeout s in
    let Q : ℕ → Type 0 = λ s. from ≤ s → All (λ u. (u ≤ s) ⊎ (s + timeout ≤ u)) starts → t ≤ later timeout s in
    let to : (s : ℕ) → P s → Q s = λ s g low none.
    g (and_from (nat_le from s) (not (any s)) (le-leb from s low)
    (not_from_false (any s) ((none_between starts s (s + timeout)).1 none))) in
    let back : (s : ℕ) → Q s → P s = λ s g e.
    let k = and_parts (nat_le from s) (not (any s)) e in
    g (leb-true from s k.0) ((none_between starts s (s + timeout)).0 (not-true (any s) k.1)) in
    let is = least_of (later timeout) (λ s. nat_le from s && not (any s)) inf t starts in
    (λ h. ((is.0 h).0, all_from P Q starts to (is.0 h).1), λ h. is.1 (h.0, all_from Q P starts back h.1))

pub clip_end_least : {L R : Type 0} (meets : L → R → Bool) (right : List (Event R)) (e : Event L) (t : ℕ) →
    (t ≤ (clip meets right e).end)
    ↔ ((t ≤ e.end) × All (λ r. IsTrue (meets e.row r.row) → e.start < r.start → t ≤ r.start) right)
clip_end_least {L} {R} meets right e t =
    let after : Event R → Bool = λ r. nat_lt e.start r.start in
    let P : Event R → Type 0 = λ r. (meets e.row r.row && after r) ≡ true → t ≤ r.start in
    let Q : Event R → Type 0 = λ r. IsTrue (meets e.row r.row) → e.start < r.start → t ≤ r.start in
    let to : (r : Event R) → P r → Q r = λ r g met low.
    g (and_from (meets e.row r.row) (after r) met (lt-ltb e.start r.start low)) in
    let back : (r : Event R) → Q r → P r = λ r g c.
    let k = and_parts (meets e.row r.row) (after r) c in
    g k.0 (ltb-true e.start r.start k.1) in
    let is = least_of (λ r. r.start) (λ r. meets e.row r.row && after r) e.end t right in
    (λ h. ((is.0 h).0, all_from P Q right to (is.0 h).1), λ h. is.1 (h.0, all_from Q P right back h.1))

pub starts_next_is : {L R : Type 0} (meets : L → R → Bool) (within : ℕ) (rs : List (Event R)) (a : Event L)
    (b : Event R) → IsTrue (starts_next meets within rs a b)
    ↔ (IsTrue (meets a.row b.row) × (a.start < b.start) × (b.start < a.start + within)
    × All (λ c. IsTrue (meets a.row c.row) → a.start < c.start → b.start ≤ c.start) rs)
starts_next_is {L} {R} meets within rs a b =
    let near : Event R → Bool = starts_within meets within a in
    let sooner : Event R → Bool = λ c. near c && nat_lt c.start b.start in
    let Q : Event R → Type 0 = λ c. IsTrue (meets a.row c.row) → a.start < c.start → b.start ≤ c.start in
    let early : b.start < a.start + within → (list_any sooner rs ≡ false) ↔ All Q rs = λ low.
    none_passes sooner Q (λ c. (one c (meets a.row c.row) refl low, back c (meets a.row c.row) refl)) rs in (
      λ h. let k = and_parts (near b) (not (list_any sooner rs)) h in
          let m = and_parts (meets a.row b.row) (nat_lt a.start b.start && nat_lt b.start (a.start + within)) k.0 in
          let t = and_parts (nat_lt a.start b.start) (nat_lt b.start (a.start + within)) m.1 in
          let low = ltb-true b.start (a.start + within) t.1 in
          (m.0, ltb-true a.start b.start t.0, low, (early low).0 (not-true (list_any sooner rs) k.1)),
      λ h. and_from (near b) (not (list_any sooner rs))
          (and_from (meets a.row b.row) (nat_lt a.start b.start && nat_lt b.start (a.start + within)) h.0
          (and_from (nat_lt a.start b.start) (nat_lt b.start (a.start + within)) (lt-ltb a.start b.start h.1)
          (lt-ltb b.start (a.start + within) h.2)))
          (not_from_false (list_any sooner rs) ((early h.2).1 h.3)),
    )
  where
    one : (c : Event R) (m : Bool) → meets a.row c.row ≡ m → b.start < a.start + within →
        ((m && (nat_lt a.start c.start && nat_lt c.start (a.start + within))) && nat_lt c.start b.start) ≡ false →
        IsTrue (meets a.row c.row) → a.start < c.start → b.start ≤ c.start
    one c m e low h met after = let k : m ≡ true = sym e ∙ met in grind (arith, nat_tests)

    back : (c : Event R) (m : Bool) → meets a.row c.row ≡ m →
        (IsTrue (meets a.row c.row) → a.start < c.start → b.start ≤ c.start) →
        ((m && (nat_lt a.start c.start && nat_lt c.start (a.start + within))) && nat_lt c.start b.start) ≡ false
    back c true e h = least (h e)
      where
        least : (a.start < c.start → b.start ≤ c.start) →
            ((true && (nat_lt a.start c.start && nat_lt c.start (a.start + within))) && nat_lt c.start b.start)
            ≡ false
        least h = grind (arith, nat_tests)
    back c false e h = refl
