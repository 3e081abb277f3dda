-- Edges that are to come.
use Rattle.std.specs.Prelude.{◌≡◌, ◌⊎◌, ℕ, suc, ◌<◌, ◌≤◌, max, nat_eq, nat_lt, nat_le, not, ◌||◌, Bool, true, false, cond, List, [], ◌∷◌, ◌++◌, length, refl}
use Rattle.std.proofs.Common.{sym, ◌∙◌, ap, subst, arith, inl, inr}
use Rattle.std.proofs.lemmas.Bool.Decides.{nat_tests}
use Rattle.std.proofs.lemmas.Grind.{flat_map-append}
use Rattle.tw_rows.specs.Bag.{total}
use Rattle.tw_rows.specs.Instant.{inf}
use Rattle.tw_rows.specs.declared.edge.Edge.{Edge}
use Rattle.tw_rows.proofs.Bags.{total-append, total_zero}
use Rattle.edge_history.specs.Order.{failing, is_from, is_end}
use Rattle.edge_history.specs.Opens.{singles, singles_of}
use Rattle.edge_history.proofs.Sums.{sum_eq}
use Rattle.sweep_laws.specs.Sweeps.{SyncsRise, IsPast, HeadFrom}
use Rattle.sweep_laws.proofs.Sides.{rise_weaker, rise_past, rise_head}
use Rattle.temporal_join.specs.Few.{sync_ahead, first_at, first_passes, SideFrom, SidePassed, NoneEnds}
use Rattle.temporal_join.specs.Lives.{AreLives, ends_from, end_weight}
use Rattle.temporal_join.specs.declared.lives.Life.{Life}
use Rattle.temporal_join.proofs.Living.{earlier, zero_test, test_zero}

le_true : (m n : ℕ) → m ≤ n → nat_le m n ≡ true
le_true m n h = grind (arith, nat_tests)

le_from : (m n : ℕ) → nat_le m n ≡ true → m ≤ n
le_from m n h = grind (arith, nat_tests)

abbrev early : ℕ → Edge → ℕ
early t e = cond (is_from t e) 0 1

early_zero : (t s : ℕ) → t ≤ s → cond {A = ℕ} (nat_le t s) 0 1 ≡ 0
early_zero t s h = test_zero (nat_le t s) (le_true t s h)

-- THE SINGLE EDGES OF EDGES IN ORDER
one_from : (t : ℕ) (e : Edge) → t ≤ e.sync → total (early t) (singles_of e) ≡ 0
one_from t e low = go (is_end e) refl (nat_eq e.other inf)
  where
    above : (m n : ℕ) → nat_lt m n ≡ false → n ≤ m
    above m n h = grind (arith, nat_tests)

    go : (b : Bool) → nat_lt e.other e.sync ≡ b → (c : Bool) →
        total (early t) (cond (b || c) (e ∷ []) (record { sync = cond b e.other e.sync; other = inf; cells = e.cells } ∷ record { sync = cond b e.sync e.other; other = cond b e.other e.sync; cells = e.cells } ∷ [])) ≡ 0
    go true k c = let z = early_zero t e.sync low in omega (arith, z)
    go false k true = let z = early_zero t e.sync low in omega (arith, z)
    go false k false = let z = early_zero t e.sync low in let y = early_zero t e.other (let a = above e.other e.sync k in omega (arith, a, low)) in omega (arith, z, y)

pub rise_singles : (t : ℕ) (es : List Edge) → SyncsRise t es → failing (is_from t) (singles es) ≡ 0
rise_singles t [] h = refl
rise_singles t (e ∷ es) h =
    let a = total-append (early t) (singles_of e) (singles es) in
    let b = one_from t e h.0 in
    let r = rise_singles t es (rise_weaker t e.sync es h.0 h.1) in
    omega (arith, a, b, r)

one_head : (t : ℕ) (e : Edge) → total (early t) (singles_of e) ≡ 0 → t ≤ e.sync
one_head t e none = go (is_end e) (nat_eq e.other inf) none
  where
    go : (b c : Bool) →
        total (early t) (cond (b || c) (e ∷ []) (record { sync = cond b e.other e.sync; other = inf; cells = e.cells } ∷ record { sync = cond b e.sync e.other; other = cond b e.other e.sync; cells = e.cells } ∷ [])) ≡ 0 → t ≤ e.sync
    go true c h = le_from t e.sync (zero_test (nat_le t e.sync) (omega (arith, h)))
    go false true h = le_from t e.sync (zero_test (nat_le t e.sync) (omega (arith, h)))
    go false false h = le_from t e.sync (zero_test (nat_le t e.sync) (omega (arith, h)))

pub singles_head : (t : ℕ) (es : List Edge) → failing (is_from t) (singles es) ≡ 0 → HeadFrom t es
singles_head t [] h = tt
singles_head t (e ∷ es) h = one_head t e (let a = total-append (early t) (singles_of e) (singles es) in omega (arith, a, h))

-- after an instant of which no edge is left
pub singles_past : (t : ℕ) (es : List Edge) → SyncsRise 0 es → IsPast t es → failing (is_from t) (singles es) ≡ 0 → failing (is_from (suc t)) (singles es) ≡ 0
singles_past t es up past from = rise_singles (suc t) es (rise_past t es (rise_head t es (singles_head t es from) up) past)

ahead_head : (t : ℕ) (es : List Edge) → t ≤ sync_ahead es → HeadFrom t es
ahead_head t [] h = tt
ahead_head t (e ∷ es) h = h

-- THE ENDS OF ROWS
ends_late : (t : ℕ) (lives : List Life) → failing (ends_from t) lives ≡ 0 → total (end_weight (early t)) lives ≡ 0
ends_late t lives h = sum_eq (ends_from t) (end_weight (early t)) (λ l. 0) lives (λ l k. one (nat_eq l.edge.other inf) (nat_le t l.edge.other) k) h ∙ total_zero lives
  where
    one : (b c : Bool) → c ≡ true → cond {A = ℕ} b 0 (cond c 0 1) ≡ 0
    one true c k = refl
    one false c k = test_zero c k

pub side_from : (columns : List ℕ) (next t : ℕ) (lives : List Life) (es : List Edge) → AreLives columns lives next → t ≤ next → SyncsRise 0 es → t ≤ sync_ahead es → SideFrom t lives es
side_from columns next t lives es are low up head =
    let a = ends_late t lives (earlier t next lives low are.later) in
    let b = rise_singles t es (rise_head t es (ahead_head t es head) up) in
    omega (arith, a, b)

ends_past : (t : ℕ) (lives : List Life) → NoneEnds t lives → total (end_weight (early t)) lives ≡ 0 → total (end_weight (early (suc t))) lives ≡ 0
ends_past t [] none h = refl
ends_past t (l ∷ lives) none h =
    let r = ends_past t lives (omega (arith, none)) (omega (arith, h)) in
    let z = one (nat_eq l.edge.other inf) t l.edge.other (omega (arith, none)) (omega (arith, h)) in
    omega (arith, r, z)
  where
    one : (b : Bool) (t o : ℕ) → cond {A = ℕ} (not (nat_eq o t)) 0 1 ≡ 0 → cond {A = ℕ} b 0 (cond (nat_le t o) 0 1) ≡ 0 → cond {A = ℕ} b 0 (cond (nat_le (suc t) o) 0 1) ≡ 0
    one true t o n h = refl
    one false t o n h = grind (arith, nat_tests)

pub side_past : (t : ℕ) (lives : List Life) (es : List Edge) → SyncsRise 0 es → IsPast t es → NoneEnds t lives → SideFrom t lives es → SideFrom (suc t) lives es
side_past t lives es up past none from =
    let a = ends_past t lives none (omega (arith, from)) in
    let b = singles_past t es up past (omega (arith, from)) in
    omega (arith, a, b)

-- the later of two times
pub later_of : (P : ℕ → Type 0) (m n : ℕ) → P m → P n → P (max m n)
later_of P m n p q = elim (either m n) [ inl e ↦ subst P (sym e) p | inr e ↦ subst P (sym e) q ]
  where
    either : (m n : ℕ) → (max m n ≡ m) ⊎ (max m n ≡ n)
    either m n = go (nat_le m n) refl
      where
        upper : (m n : ℕ) → nat_le m n ≡ true → max m n ≡ n
        upper m n h = let l = le_from m n h in omega (arith, l)

        lower : (m n : ℕ) → nat_le m n ≡ false → max m n ≡ m
        lower m n h = grind (arith, nat_tests)

        go : (b : Bool) → nat_le m n ≡ b → (max m n ≡ m) ⊎ (max m n ≡ n)
        go true h = inr (upper m n h)
        go false h = inl (lower m n h)

-- THE FIRST EDGE
pub past_of : (t : ℕ) (es : List Edge) → first_at t es ≡ false → IsPast t es
past_of t [] h = tt
past_of t (e ∷ es) h = λ same. apart e.sync same h
  where
    apart : (s : ℕ) → s ≡ t → nat_eq s t ≡ false → ⊥
    apart s same h = grind (arith, nat_tests)

pub fewer_next : (t : ℕ) (es es2 : List Edge) → first_at t es ≡ true → ((e : Edge) (rest : List Edge) → es ≡ e ∷ rest → es2 ≡ rest) → length es2 < length es
fewer_next t [] es2 h next = absurd (cc (h))
fewer_next t (e ∷ es) es2 h next = let a = ap (λ (l : List Edge). length l) (next e es refl) in omega (arith, a)

pub first_is : (p : Edge → Bool) (es : List Edge) (e : Edge) (rest : List Edge) → es ≡ e ∷ rest → first_passes p es ≡ true → p e ≡ true
first_is p es e rest is h = sym (ap (first_passes p) is) ∙ h

-- edges in order behind others
pub rise_behind : (front es : List Edge) (r : ℕ) → SyncsRise r (front ++ es) → SyncsRise r es
rise_behind [] es r h = h
rise_behind (e ∷ front) es r h = rise_weaker r e.sync es h.0 (rise_behind front es e.sync h.1)

-- what is left of a side after an instant
pub side_past_of : (t : ℕ) (l1 l2 : List Life) (es es2 nl now : List Edge) → nl ++ es2 ≡ es → SyncsRise 0 es2 → IsPast t es2 → NoneEnds t l2 → SideFrom t l1 es → SidePassed t l1 l2 nl now → SideFrom (suc t) l2 es2
side_past_of t l1 l2 es es2 nl now cut up past none from p =
    let a = p.parts (early t) in
    let b = ap (λ l. failing (is_from t) (singles l)) (sym cut) ∙ (ap (failing (is_from t)) (flat_map-append singles_of nl es2) ∙ total-append (early t) (singles nl) (singles es2)) in
    side_past t l2 es2 up past none (omega (arith, a, b, from))

pub both_whole : (a b : Bool) → not a || not b ≡ false → (a ≡ true) × (b ≡ true)
both_whole true true h = (refl, refl)
both_whole true false h = absurd (cc (h))
both_whole false b h = absurd (cc (h))
