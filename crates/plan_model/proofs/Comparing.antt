-- What the comparisons of values say.
use Rattle.std.specs.Prelude.{◌≡◌, ◌≢◌, ◌↔◌, ℕ, ◌<◌, Bool, true, false, not, List, [], ◌∷◌, ◌++◌, IsTrue, refl}
use Rattle.std.proofs.Common.{sym, ◌∙◌, ap, subst, inl, inr, true≢false}
use Rattle.std.specs.Ordering.{is_eq, is_ne, is_lt, is_le, is_gt, nat_cmp, ordering_then, ordering_reverse, MatchOrdering}
use Rattle.std.specs.Cmp.{tied_itself, ranks, nat_cmp_total, nat_cmp_is}
use Rattle.std.specs.Cmp.Lexicographic.{slice_cmp}
use Rattle.std.specs.declared.cmp.Ordering.{Ordering}
use Rattle.std.specs.declared.cmp.Ordering.TheVariants.{Less, Equal, Greater}
use Rattle.tw_rows.specs.declared.row.Value.{Value}
use Rattle.tw_rows.specs.Rows.{value_cmp}
use Rattle.tw_rows.specs.RowOrder.{value_cmp_total, value_cmp-IsAntisymmetric}
use Rattle.plan_model.specs.Arithmetic.{StandsBefore}

-- equality
Equal-from : (o : Ordering) → is_eq o ≡ true → o ≡ Equal
Equal-from Less e = absurd (cc)
Equal-from Equal e = refl
Equal-from Greater e = absurd (cc)

pub is_eq-value_cmp : (a b : Value) → IsTrue (is_eq (value_cmp a b)) ↔ (a ≡ b)
is_eq-value_cmp a b = (λ e. value_cmp-IsAntisymmetric a b (Equal-from (value_cmp a b) e), λ e. ap is_eq (ap (value_cmp a) (sym e) ∙ tied_itself value_cmp_total a))

pub is_ne-not : (o : Ordering) → is_ne o ≡ not (is_eq o)
is_ne-not Less = refl
is_ne-not Equal = refl
is_ne-not Greater = refl

not_true : (b : Bool) {P : Type 0} → (IsTrue b → P) → (P → IsTrue b) → IsTrue (not b) ↔ (P → ⊥)
not_true true f g = (λ e. absurd (cc), λ h. absurd (h (f refl)))
not_true false f g = (λ e p. absurd (true≢false (sym (g p))), λ h. refl)

pub is_ne-value_cmp : (a b : Value) → IsTrue (is_ne (value_cmp a b)) ↔ (a ≢ b)
is_ne-value_cmp a b = subst (λ t. IsTrue t ↔ (a ≢ b)) (sym (is_ne-not (value_cmp a b))) (not_true (is_eq (value_cmp a b)) (is_eq-value_cmp a b).0 (is_eq-value_cmp a b).1)

-- the other comparisons, by "before"
pub is_gt-turned : (a b : Value) → is_gt (value_cmp a b) ≡ is_lt (value_cmp b a)
is_gt-turned a b = ap is_gt (value_cmp_total.antisymm a b) ∙ turned (value_cmp b a)
  where
    turned : (o : Ordering) → is_gt (ordering_reverse o) ≡ is_lt o
    turned Less = refl
    turned Equal = refl
    turned Greater = refl

pub is_le-not : (o : Ordering) → is_le o ≡ not (is_gt o)
is_le-not Less = refl
is_le-not Equal = refl
is_le-not Greater = refl

-- "before" of texts
after_same : (x : ℕ) (s t : List ℕ) → slice_cmp nat_cmp (x ∷ s) (x ∷ t) ≡ slice_cmp nat_cmp s t
after_same x s t = ap (λ o. ordering_then o (slice_cmp nat_cmp s t)) (tied_itself nat_cmp_total x)

goes_on : (s : List ℕ) (byte : ℕ) (rest : List ℕ) → slice_cmp nat_cmp s (s ++ byte ∷ rest) ≡ Less
goes_on [] byte rest = refl
goes_on (x ∷ s) byte rest = after_same x s (s ++ byte ∷ rest) ∙ goes_on s byte rest

has_lesser : (same : List ℕ) (low high : ℕ) (s t : List ℕ) → low < high → slice_cmp nat_cmp (same ++ low ∷ s) (same ++ high ∷ t) ≡ Less
has_lesser [] low high s t h = ap (λ o. ordering_then o (slice_cmp nat_cmp s t)) (sym (nat_cmp_is low high Less h))
has_lesser (x ∷ same) low high s t h = after_same x (same ++ low ∷ s) (same ++ high ∷ t) ∙ has_lesser same low high s t h

StandsBefore-cons : (x y : ℕ) (s t : List ℕ) → x ≡ y → StandsBefore s t → StandsBefore (x ∷ s) (y ∷ t)
StandsBefore-cons x y s t e (inl h) = inl (h.0, h.1, rw (sym e, h.2) refl)
StandsBefore-cons x y s t e (inr h) = inr (x ∷ h.0, h.1, h.2, h.3, h.4, h.5, ap (λ l. x ∷ l) h.6, rw (sym e, h.7) refl)

before_from : (s t : List ℕ) → IsTrue (is_lt (slice_cmp nat_cmp s t)) → StandsBefore s t
before_from [] [] e = absurd (cc)
before_from [] (y ∷ t) e = inl (y, t, refl)
before_from (x ∷ s) [] e = absurd (cc)
before_from (x ∷ s) (y ∷ t) e = by (nat_cmp x y) (ranks x y) e (before_from s t)
  where
    by : (o : Ordering) → MatchOrdering o (x < y) (x ≡ y) (y < x) → IsTrue (is_lt (ordering_then o (slice_cmp nat_cmp s t))) → (IsTrue (is_lt (slice_cmp nat_cmp s t)) → StandsBefore s t) → StandsBefore (x ∷ s) (y ∷ t)
    by Less h e rest = inr ([], x, y, s, t, h, refl, refl)
    by Equal h e rest = StandsBefore-cons x y s t h (rest e)
    by Greater h e rest = absurd (cc)

before_to : (s t : List ℕ) → StandsBefore s t → IsTrue (is_lt (slice_cmp nat_cmp s t))
before_to s t (inl h) = ap is_lt (ap (slice_cmp nat_cmp s) h.2 ∙ goes_on s h.0 h.1)
before_to s t (inr h) = ap is_lt (ap (slice_cmp nat_cmp s) h.7 ∙ (ap (λ l. slice_cmp nat_cmp l (h.0 ++ h.2 ∷ h.4)) h.6 ∙ has_lesser h.0 h.1 h.2 h.3 h.4 h.5))

pub is_lt-text : (s t : List ℕ) → IsTrue (is_lt (slice_cmp nat_cmp s t)) ↔ StandsBefore s t
is_lt-text s t = (before_from s t, before_to s t)

-- a truth value turned
pub IsTrue-not : (b : Bool) → IsTrue (not b) ↔ (IsTrue b → ⊥)
IsTrue-not b = not_true b (λ e. e) (λ e. e)
