-- What is known of coalesced events below a time depends on the rows before it alone.
use Rattle.std.specs.Prelude.{◌≡◌, ℕ, zero, suc, ◌+◌, ◌-◌, ◌<◌, ◌≤◌, Bool, true, false, ◌||◌, List, [], ◌∷◌, ◌++◌, refl}
use Rattle.std.specs.List.{list_any}
use Rattle.std.proofs.Common.{sym, ◌∙◌, ap, arith, add-zero, add-suc}
use Rattle.std.proofs.lemmas.List.Folds.{list_any-append}
use Rattle.std.proofs.lemmas.Bool.{le-ltb}
use Rattle.std.proofs.lemmas.Bool.Decides.{nat_tests}
use Rattle.tw_rows.specs.Instant.{inf}
use Rattle.tw_rows.specs.Bag.{total, SameBag}
use Rattle.tw_rows.specs.Event.{Event, cut_one, cut}
use Rattle.tw_rows.proofs.Bags.{total-flat_map, total_same}
use Rattle.tw_rows.proofs.Lives.{total-cut}
use Rattle.key_nodes.specs.Runs.{Tells}
use Rattle.key_nodes.specs.Groups.{distinct}
use Rattle.key_nodes.proofs.Bags.{any_of_same, sum_distinct}
use Rattle.key_nodes.specs.Coalesced.{rise_times, fall_times, paired_times, rows_below, row_events, coalesced}
use Rattle.key_nodes.proofs.Coalescing.{row_same, below_same, row_none}
use Rattle.key_nodes.proofs.CoalescedTimes.{AllFrom, rises_rest, falls_rest}

cut_past : {R : Type 0} (c a b : ℕ) (r : R) → c ≤ a → cut_one c (record { row = r; start = a; end = b }) ≡ []
cut_past c a b r h = rw (le-ltb a c h) refl

cut_open : {R : Type 0} (c a b : ℕ) (r : R) → c ≤ b → cut_one c (record { row = r; start = a; end = b }) ≡ cut_one c (record { row = r; start = a; end = inf })
cut_open c a b r h = grind (arith, nat_tests)

late : {R : Type 0} (c : ℕ) (r : R) (up down : List ℕ) → AllFrom c up → cut c (paired_times r up down) ≡ []
late c r [] down h = refl
late c r (a ∷ up) [] h = ap (λ l. l ++ cut c (paired_times r up [])) (cut_past c a inf r h.0) ∙ late c r up [] h.1
late c r (a ∷ up) (b ∷ down) h = ap (λ l. l ++ cut c (paired_times r up down)) (cut_past c a b r h.0) ∙ late c r up down h.1

matched_cut : {R : Type 0} (c : ℕ) (r : R) (up more down rest : List ℕ) → AllFrom c more → AllFrom c rest → cut c (paired_times r (up ++ more) (down ++ rest)) ≡ cut c (paired_times r up down)
matched_cut c r [] more down rest h k = late c r more (down ++ rest) h
matched_cut c r (a ∷ up) more [] [] h k = ap (λ l. cut_one c (record { row = r; start = a; end = inf }) ++ l) (matched_cut c r up more [] [] h k)
matched_cut c r (a ∷ up) more [] (b ∷ rest) h k =
    ap (λ l. l ++ cut c (paired_times r (up ++ more) rest)) (cut_open c a b r k.0) ∙ ap (λ l. cut_one c (record { row = r; start = a; end = inf }) ++ l) (matched_cut c r up more [] rest h k.1)
matched_cut c r (a ∷ up) more (b ∷ down) rest h k = ap (λ l. cut_one c (record { row = r; start = a; end = b }) ++ l) (matched_cut c r up more down rest h k)

module _ {R : Type 0} (same : R → R → Bool) where
  row_cut_more : (f : ℕ → List R) (r : R) (c d : ℕ) → cut c (row_events same f (c + d) r) ≡ cut c (row_events same f c r)
  row_cut_more f r c d =
      let a = rises_rest same f r c d in
      let b = falls_rest same f r c d in
      ap (λ l. cut c (paired_times r l (fall_times same f r (c + d)))) a.1
      ∙ (ap (λ l. cut c (paired_times r (rise_times same f r c ++ a.0) l)) b.1 ∙ matched_cut c r (rise_times same f r c) a.0 (fall_times same f r c) b.0 a.2 b.2)

  row_cut : (f : ℕ → List R) (r : R) (c n : ℕ) → c ≤ n → cut c (row_events same f n r) ≡ cut c (row_events same f c r)
  row_cut f r c n low = (let e : n ≡ c + (n - c) = omega arith in ap (λ m. cut c (row_events same f m r)) e) ∙ row_cut_more f r c (n - c)

  or_left : (a b : Bool) → a ≡ true → (a || b) ≡ true
  or_left true b h = refl
  or_left false b h = absurd (cc)

  below_more : (f : ℕ → List R) (k : R) (c d : ℕ) → list_any (same k) (rows_below f c) ≡ true → list_any (same k) (rows_below f (c + d)) ≡ true
  below_more f k c zero h = ap (λ n. list_any (same k) (rows_below f n)) (add-zero c) ∙ h
  below_more f k c (suc d) h = rw (add-suc c d) (list_any-append (same k) (rows_below f (c + d)) (f (c + d)) ∙ or_left _ _ (below_more f k c d h))

  below_later : (f : ℕ → List R) (k : R) (c n : ℕ) → c ≤ n → list_any (same k) (rows_below f c) ≡ true → list_any (same k) (rows_below f n) ≡ true
  below_later f k c n low h = (let e : n ≡ c + (n - c) = omega arith in ap (λ m. list_any (same k) (rows_below f m)) e) ∙ below_more f k c (n - c) h

  -- what is known of them, by the rows before c
  half : Tells same → (w : Event R → ℕ) (f : ℕ → List R) (c : ℕ) → c ≤ inf → total w (cut c (coalesced same f)) ≡ total (λ r. total w (cut c (row_events same f c r))) (distinct same (rows_below f c))
  half tells w f c low =
      total-cut w c (coalesced same f)
      ∙ (total-flat_map (λ e. total w (cut_one c e)) (row_events same f inf) (distinct same (rows_below f inf))
      ∙ (total_same _ (λ r. total w (cut c (row_events same f c r))) (distinct same (rows_below f inf))
      (λ r. sym (total-cut w c (row_events same f inf r)) ∙ ap (total w) (row_cut f r c inf low))
      ∙ sum_distinct same tells (λ r. total w (cut c (row_events same f c r))) (rows_below f inf) (rows_below f c)
      (λ r none. ap (λ l. total w (cut c l)) (row_none same f c r none)) (λ r some. below_later f r c inf low some)))

  pub coalesced_known : Tells same → (f g : ℕ → List R) (c : ℕ) → c ≤ inf → ((u : ℕ) → u < c → SameBag (f u) (g u)) → SameBag (cut c (coalesced same f)) (cut c (coalesced same g))
  coalesced_known tells f g c low h = record {
    weigh = λ w.
        half tells w f c low
        ∙ (total_same _ (λ r. total w (cut c (row_events same g c r))) (distinct same (rows_below f c)) (λ r. ap (λ l. total w (cut c l)) (row_same same f g c h r))
        ∙ (sum_distinct same tells (λ r. total w (cut c (row_events same g c r))) (rows_below f c) (rows_below g c)
        (λ r none. ap (λ l. total w (cut c l)) (row_none same g c r none))
        (λ r some. any_of_same (same r) (rows_below f c) (rows_below g c) (below_same same f g c h) ∙ some)
        ∙ sym (half tells w g c low)));
  }
