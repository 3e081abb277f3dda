-- Coalesced events are a function of the rows at each instant as multisets.
use Rattle.std.specs.Prelude.{◌≡◌, ℕ, zero, suc, ◌-◌, ◌<◌, nat_lt, Bool, true, false, cond, ◌||◌, List, [], ◌++◌, replicate, refl}
use Rattle.std.specs.List.{list_any}
use Rattle.std.proofs.Common.{sym, ◌∙◌, ap, arith}
use Rattle.std.proofs.lemmas.List.Folds.{list_any-append}
use Rattle.std.proofs.lemmas.Bool.Decides.{nat_tests}
use Rattle.tw_rows.specs.Instant.{inf}
use Rattle.tw_rows.specs.Bag.{total, SameBag}
use Rattle.tw_rows.proofs.Bags.{total-flat_map, total_same, SameBag-refl, SameBag-append}
use Rattle.key_nodes.specs.Runs.{Tells}
use Rattle.key_nodes.specs.Groups.{distinct}
use Rattle.key_nodes.proofs.Bags.{any_by_weight, any_of_same, sum_distinct}
use Rattle.key_nodes.specs.Coalesced.{how_often, rows_before, rise_times, fall_times, paired_times, rows_below, row_events, coalesced}

or_false : (a b : Bool) → (a || b) ≡ false → (a ≡ false) × (b ≡ false)
or_false true b h = absurd (cc)
or_false false b h = (refl, h)

module _ {R : Type 0} (same : R → R → Bool) where
  often_same : (r : R) (xs ys : List R) → SameBag xs ys → how_often same r xs ≡ how_often same r ys
  often_same r xs ys h = h.weigh (λ x. cond (same r x) 1 0)

  often_none : (r : R) (xs : List R) → list_any (same r) xs ≡ false → how_often same r xs ≡ 0
  often_none r xs h = let e = any_by_weight (same r) xs in none (how_often same r xs) (sym e ∙ h)
    where
      none : (n : ℕ) → nat_lt 0 n ≡ false → n ≡ 0
      none n h = grind (arith, nat_tests)

  before_same : (f g : ℕ → List R) (t : ℕ) → ((u : ℕ) → u < suc t → SameBag (f u) (g u)) → SameBag (rows_before f t) (rows_before g t)
  before_same f g zero h = SameBag-refl []
  before_same f g (suc t) h = h t (omega arith)

  rises_same : (f g : ℕ → List R) (r : R) (n : ℕ) → ((u : ℕ) → u < n → SameBag (f u) (g u)) → rise_times same f r n ≡ rise_times same g r n
  rises_same f g r zero h = refl
  rises_same f g r (suc t) h =
      let a = often_same r (f t) (g t) (h t (omega arith)) in
      let b = often_same r (rows_before f t) (rows_before g t) (before_same f g t h) in
      ap (λ l. l ++ replicate (how_often same r (f t) - how_often same r (rows_before f t)) t) (rises_same f g r t (λ u low. h u (omega arith)))
      ∙ (ap (λ m. rise_times same g r t ++ replicate (m - how_often same r (rows_before f t)) t) a ∙ ap (λ m. rise_times same g r t ++ replicate (how_often same r (g t) - m) t) b)

  falls_same : (f g : ℕ → List R) (r : R) (n : ℕ) → ((u : ℕ) → u < n → SameBag (f u) (g u)) → fall_times same f r n ≡ fall_times same g r n
  falls_same f g r zero h = refl
  falls_same f g r (suc t) h =
      let a = often_same r (f t) (g t) (h t (omega arith)) in
      let b = often_same r (rows_before f t) (rows_before g t) (before_same f g t h) in
      ap (λ l. l ++ replicate (how_often same r (rows_before f t) - how_often same r (f t)) t) (falls_same f g r t (λ u low. h u (omega arith)))
      ∙ (ap (λ m. fall_times same g r t ++ replicate (how_often same r (rows_before f t) - m) t) a ∙ ap (λ m. fall_times same g r t ++ replicate (m - how_often same r (g t)) t) b)

  pub row_same : (f g : ℕ → List R) (n : ℕ) → ((u : ℕ) → u < n → SameBag (f u) (g u)) → (r : R) → row_events same f n r ≡ row_events same g n r
  row_same f g n h r = ap (λ l. paired_times r l (fall_times same f r n)) (rises_same f g r n h) ∙ ap (paired_times r (rise_times same g r n)) (falls_same f g r n h)

  pub below_same : (f g : ℕ → List R) (n : ℕ) → ((u : ℕ) → u < n → SameBag (f u) (g u)) → SameBag (rows_below f n) (rows_below g n)
  below_same f g zero h = SameBag-refl []
  below_same f g (suc t) h = SameBag-append _ _ _ _ (below_same f g t (λ u low. h u (omega arith))) (h t (omega arith))

  rises_none : (f : ℕ → List R) (r : R) (n : ℕ) → list_any (same r) (rows_below f n) ≡ false → rise_times same f r n ≡ []
  rises_none f r zero h = refl
  rises_none f r (suc t) h =
      let p = or_false (list_any (same r) (rows_below f t)) (list_any (same r) (f t)) (sym (list_any-append (same r) (rows_below f t) (f t)) ∙ h) in
      let z = often_none r (f t) p.1 in
      ap (λ l. l ++ replicate (how_often same r (f t) - how_often same r (rows_before f t)) t) (rises_none f r t p.0)
      ∙ ap (λ m. replicate m t) (gone (how_often same r (f t)) (how_often same r (rows_before f t)) z)
    where
      gone : (a b : ℕ) → a ≡ 0 → a - b ≡ 0
      gone a b h = omega (arith, h)

  pub row_none : (f : ℕ → List R) (n : ℕ) (r : R) → list_any (same r) (rows_below f n) ≡ false → row_events same f n r ≡ []
  row_none f n r h = ap (λ l. paired_times r l (fall_times same f r n)) (rises_none f r n h)

  -- the events depend on the rows as multisets alone
  pub coalesced_same : Tells same → (f g : ℕ → List R) → ((u : ℕ) → u < inf → SameBag (f u) (g u)) → SameBag (coalesced same f) (coalesced same g)
  coalesced_same tells f g h = record {
    weigh = λ w.
        total-flat_map w (row_events same f inf) (distinct same (rows_below f inf))
        ∙ (total_same _ (λ r. total w (row_events same g inf r)) (distinct same (rows_below f inf)) (λ r. ap (total w) (row_same f g inf h r))
        ∙ (sum_distinct same tells (λ r. total w (row_events same g inf r)) (rows_below f inf) (rows_below g inf)
        (λ r none. ap (total w) (row_none g inf r none))
        (λ r some. any_of_same (same r) (rows_below f inf) (rows_below g inf) (below_same f g inf h) ∙ some)
        ∙ sym (total-flat_map w (row_events same g inf) (distinct same (rows_below g inf)))));
  }
