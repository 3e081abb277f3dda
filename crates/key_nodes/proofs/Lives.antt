-- What is known of events below a time, and of their rows.
use Rattle.std.specs.Prelude.{◌≡◌, ℕ, suc, ◌<◌, ◌≤◌, nat_lt, nat_le, Bool, true, false, cond, List, [], ◌∷◌, map, flat_map, refl}
use Rattle.std.specs.List.{list_any}
use Rattle.std.proofs.Common.{inl, inr, sym, ◌∙◌, arith, add-zero}
use Rattle.std.proofs.lemmas.Bool.Decides.{nat_tests}
use Rattle.std.proofs.lemmas.Bool.{cases_lt, lt-ltb, le-ltb}
use Rattle.tw_rows.specs.Instant.{inf}
use Rattle.tw_rows.specs.Bag.{total, SameBag}
use Rattle.tw_rows.specs.Event.{Event, lives_at, alive, AreEvents, cut_one, cut}
use Rattle.tw_rows.proofs.Bags.{total_same}
use Rattle.tw_rows.proofs.Lives.{total-alive, total-cut, AreEvents-append}
use Rattle.key_nodes.proofs.Bags.{total_le, any_more}

pub AreEvents-flat_map : {X R : Type 0} (f : X → List (Event R)) (xs : List X) → ((x : X) → AreEvents (f x)) →
    AreEvents (flat_map f xs)
AreEvents-flat_map f [] h = tt
AreEvents-flat_map f (x ∷ xs) h = AreEvents-append (f x) (flat_map f xs) (h x) (AreEvents-flat_map f xs h)

cond_le : (b : Bool) (n : ℕ) → cond b n 0 ≤ n
cond_le true n = omega arith
cond_le false n = omega arith

-- a row that is alive is the row of an event
pub any_alive : {R : Type 0} (p : R → Bool) (es : List (Event R)) (t : ℕ) → list_any p (alive es t) ≡ true →
    list_any (λ e. p e.row) es ≡ true
any_alive p es t =
    any_more p (λ e. p e.row) (alive es t) es
    (rw (total-alive (λ r. cond (p r) 1 0) es t)
    (total_le _ _ es (λ e. cond_le (lives_at t e) (cond (p e.row) 1 0))))

lives_cut : {R : Type 0} (w : R → ℕ) (c u : ℕ) (e : Event R) → u < c → c ≤ inf →
    cond (lives_at u e) (w e.row) 0 ≤ total (λ x. w x.row) (cut_one c e)
lives_cut w c u e low high = grind (arith, nat_tests)

-- a row that is alive before c is the row of an event that is known below c
pub any_alive_known : {R : Type 0} (p : R → Bool) (es : List (Event R)) (c u : ℕ) → u < c → c ≤ inf →
    list_any p (alive es u) ≡ true → list_any (λ e. p e.row) (cut c es) ≡ true
any_alive_known p es c u low high = any_more p (λ e. p e.row) (alive es u) (cut c es)
    (rw (total-alive (λ r. cond (p r) 1 0) es u, total-cut (λ e. cond (p e.row) 1 0) c es)
    (total_le _ _ es (λ e. lives_cut (λ r. cond (p r) 1 0) c u e low high)))

row_cut : {R : Type 0} (w : R → ℕ) (c : ℕ) (e : Event R) → total (λ x. w x.row) (cut_one c e) ≤ w e.row
row_cut w c e = grind (arith, nat_tests)

-- the row of an event that is known is the row of an event
pub any_cut : {R : Type 0} (p : R → Bool) (es : List (Event R)) (c : ℕ) → list_any (λ e. p e.row) (cut c es) ≡ true →
    list_any (λ e. p e.row) es ≡ true
any_cut p es c =
    any_more (λ e. p e.row) (λ e. p e.row) (cut c es) es
    (rw (total-cut (λ e. cond (p e.row) 1 0) c es) (total_le _ _ es (λ e. row_cut (λ r. cond (p r) 1 0) c e)))

pub AreEvents-map : {R S : Type 0} (f : Event R → Event S) (es : List (Event R)) →
    ((e : Event R) → e.start < e.end → e.end ≤ inf → ((f e).start < (f e).end) × ((f e).end ≤ inf)) → AreEvents es →
    AreEvents (map f es)
AreEvents-map f [] h valid = tt
AreEvents-map f (e ∷ es) h valid = let k = h e valid.0 valid.1 in (k.0, k.1, AreEvents-map f es h valid.2)

pub cut_early : {R : Type 0} (c : ℕ) (e : Event R) → e.start < c →
    cut_one c e ≡ record { row = e.row; start = e.start; end = cond (nat_lt e.end c) e.end inf } ∷ []
cut_early c e h = rw (lt-ltb e.start c h) refl

row_and_start : {R : Type 0} (w : R → ℕ → ℕ) (c : ℕ) (e : Event R) → (c ≤ e.start → w e.row e.start ≡ 0) →
    w e.row e.start ≡ total (λ x. w x.row x.start) (cut_one c e)
row_and_start w c e late = elim (cases_lt e.start c) [
  | inl before ↦ rw (lt-ltb e.start c before) (sym (add-zero (w e.row e.start)))
  | inr after ↦ rw (le-ltb e.start c after) (late after)
]

-- rows and starts below c are known below c
pub starts_known : {R : Type 0} (w : R → ℕ → ℕ) (c : ℕ) (a b : List (Event R)) →
    ((r : R) (s : ℕ) → c ≤ s → w r s ≡ 0) → SameBag (cut c a) (cut c b) →
    total (λ e. w e.row e.start) a ≡ total (λ e. w e.row e.start) b
starts_known {R} w c a b late h =
    let go : (es : List (Event R)) → total (λ e. w e.row e.start) es ≡ total (λ e. w e.row e.start) (cut c es) = λ es.
    total_same _ _ es (λ e. row_and_start w c e (late e.row e.start)) ∙ sym (total-cut (λ e. w e.row e.start) c es) in
    go a ∙ (h.weigh (λ e. w e.row e.start) ∙ sym (go b))

-- two times that compare alike with each time up to c are known alike below c
pub known_alike : (c x y : ℕ) → c ≤ inf → ((t : ℕ) → t ≤ c → nat_le t x ≡ nat_le t y) →
    cond (nat_lt x c) x inf ≡ cond (nat_lt y c) y inf
known_alike c x y high h = elim (cases_lt x c) [
  | inl lx ↦ let a = h (suc x) (omega arith) in let b = h x (omega arith) in grind (arith, nat_tests)
  | inr gx ↦ let a = h c (omega arith) in grind (arith, nat_tests)
]

pub cut_alike : {R : Type 0} (w : Event R → ℕ) (c s x y : ℕ) (r : R) →
    cond (nat_lt x c) x inf ≡ cond (nat_lt y c) y inf →
    total w (cut_one c (record { row = r; start = s; end = x }))
    ≡ total w (cut_one c (record { row = r; start = s; end = y }))
cut_alike w c s x y r h = rw h refl
