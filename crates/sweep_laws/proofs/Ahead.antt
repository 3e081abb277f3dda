-- Events that are told at their starts, by interval edges.
use Rattle.std.specs.Prelude.{◌≡◌, ℕ, ◌+◌, ◌<◌, ◌≤◌, nat_lt, Bool, true, cond, List, [], ◌∷◌, map, filter, refl}
use Rattle.std.proofs.Common.{sym, ◌∙◌, ap, arith, inl, inr}
use Rattle.std.proofs.lemmas.Bool.{cases_lt}
use Rattle.std.proofs.lemmas.Bool.Decides.{nat_tests}
use Rattle.tw_rows.specs.Instant.{inf}
use Rattle.tw_rows.specs.Bag.{total, SameBag}
use Rattle.tw_rows.specs.declared.edge.Edge.{Edge}
use Rattle.tw_rows.proofs.Bags.{total-flat_map, total-map, total-filter}
use Rattle.edge_history.specs.Order.{Rises, failing, is_real, is_below, is_from}
use Rattle.edge_history.specs.History.{CellEvent}
use Rattle.edge_history.specs.Balance.{start_edge, end_edge, news_of}
use Rattle.edge_history.specs.Opens.{singles_of, singles}
use Rattle.edge_history.specs.Ahead.{ToldAhead}
use Rattle.edge_history.proofs.Sums.{sum_eq, sum_le}
use Rattle.edge_history.proofs.Telling.{is_event}
use Rattle.sweep_laws.specs.Waits.{as_interval, starts_below}

module _ (c : ℕ) (within : c ≤ inf) where
  -- the single edges of an interval
  shut : (e : CellEvent) → e.start < e.end → e.end < inf → singles_of (as_interval e) ≡ start_edge e ∷ end_edge e ∷ []
  shut e low fin = grind (arith, nat_tests)

  unshut : (e : CellEvent) → e.start < e.end → e.end ≡ inf → singles_of (as_interval e) ≡ as_interval e ∷ []
  unshut e low is = grind (arith, nat_tests)

  lives : (e : CellEvent) → is_event e ≡ true → (e.start < e.end) × (e.end ≤ inf)
  lives e v = (grind (arith, nat_tests), grind (arith, nat_tests))

  module _ (w : Edge → ℕ) where
    abbrev part : (Edge → Bool) → CellEvent → ℕ
    part p e = total (λ x. cond (p x) (w x) 0) (singles_of (as_interval e))

    early_shut : (e : CellEvent) → e.start < e.end → e.end < inf →
        cond (nat_lt e.start c) (cond (is_below c (start_edge e)) (w (start_edge e)) 0 + (cond (is_below c (end_edge e)) (w (end_edge e)) 0 + 0)) 0 ≡ total w (news_of 0 c e)
    early_shut e low fin = grind (arith, nat_tests)

    early_open : (e : CellEvent) → e.end ≡ inf → cond (nat_lt e.start c) (cond (is_below c (start_edge e)) (w (start_edge e)) 0 + 0) 0 ≡ total w (news_of 0 c e)
    early_open e is = grind (arith, nat_tests)

    late_shut : (e : CellEvent) → e.start < e.end → e.end < inf →
        cond (nat_lt e.start c) (cond (is_from c (start_edge e)) (w (start_edge e)) 0 + (cond (is_from c (end_edge e)) (w (end_edge e)) 0 + 0)) 0 ≤ total w (news_of c inf e)
    late_shut e low fin = grind (arith, nat_tests)

    late_open : (e : CellEvent) → e.end ≡ inf → cond (nat_lt e.start c) (cond (is_from c (start_edge e)) (w (start_edge e)) 0 + 0) 0 ≤ total w (news_of c inf e)
    late_open e is = grind (arith, nat_tests)

    as_start : (e : CellEvent) → e.end ≡ inf → as_interval e ≡ start_edge e
    as_start e is = ap (λ n. record { sync = e.start; other = n; cells = e.row }) is

    early : (e : CellEvent) → is_event e ≡ true → cond (nat_lt e.start c) (part (is_below c) e) 0 ≡ total w (news_of 0 c e)
    early e v = let l = lives e v in elim (cases_lt e.end inf) [
      | inl fin ↦ ap (λ xs. cond (nat_lt e.start c) (total (λ x. cond (is_below c x) (w x) 0) xs) 0) (shut e l.0 fin) ∙ early_shut e l.0 fin
      | inr far ↦ (let is : e.end ≡ inf = (let h = l.1 in omega (arith, far, h)) in
          ap (λ xs. cond (nat_lt e.start c) (total (λ x. cond (is_below c x) (w x) 0) xs) 0) (unshut e l.0 is ∙ ap (λ x. x ∷ []) (as_start e is)) ∙ early_open e is)
    ]

    late : (e : CellEvent) → is_event e ≡ true → cond (nat_lt e.start c) (part (is_from c) e) 0 ≤ total w (news_of c inf e)
    late e v = let l = lives e v in elim (cases_lt e.end inf) [
      | inl fin ↦ (let a = ap (λ xs. cond (nat_lt e.start c) (total (λ x. cond (is_from c x) (w x) 0) xs) 0) (shut e l.0 fin) in let b = late_shut e l.0 fin in omega (arith, a, b))
      | inr far ↦ (let is : e.end ≡ inf = (let h = l.1 in omega (arith, far, h)) in
          let a = ap (λ xs. cond (nat_lt e.start c) (total (λ x. cond (is_from c x) (w x) 0) xs) 0) (unshut e l.0 is ∙ ap (λ x. x ∷ []) (as_start e is)) in let b = late_open e is in omega (arith, a, b))
    ]

    -- what the single edges of the intervals weigh
    parts : (p : Edge → Bool) (out : List Edge) (es : List CellEvent) → SameBag out (map as_interval (filter (starts_below c) es)) →
        total w (filter p (singles out)) ≡ total (λ e. cond (nat_lt e.start c) (part p e) 0) es
    parts p out es is =
        total-filter w p (singles out)
        ∙ (total-flat_map (λ x. cond (p x) (w x) 0) singles_of out
        ∙ (is.weigh (λ x. total (λ y. cond (p y) (w y) 0) (singles_of x))
        ∙ (total-map (λ x. total (λ y. cond (p y) (w y) 0) (singles_of x)) as_interval (filter (starts_below c) es)
        ∙ total-filter (part p) (starts_below c) es)))

  none_fail : (p : Edge → Bool) (out : List Edge) (es : List CellEvent) → SameBag out (map as_interval (filter (starts_below c) es)) → failing is_event es ≡ 0 →
      ((e : CellEvent) → is_event e ≡ true → cond {A = ℕ} (nat_lt e.start c) (cond (p (as_interval e)) 0 1) 0 ≡ 0) → failing p out ≡ 0
  none_fail p out es is valid one =
      is.weigh (λ x. cond {A = ℕ} (p x) 0 1)
      ∙ (total-map (λ x. cond {A = ℕ} (p x) 0 1) as_interval (filter (starts_below c) es)
      ∙ (total-filter (λ e. cond {A = ℕ} (p (as_interval e)) 0 1) (starts_below c) es
      ∙ (sum_eq is_event (λ e. cond {A = ℕ} (nat_lt e.start c) (cond (p (as_interval e)) 0 1) 0) (λ e. 0) es one valid ∙ zeros es)))
    where
      zeros : (es : List CellEvent) → total (λ e. 0) es ≡ 0
      zeros [] = refl
      zeros (e ∷ es) = let z = zeros es in omega (arith, z)

  is_real_one : (e : CellEvent) → is_event e ≡ true → cond {A = ℕ} (nat_lt e.start c) (cond (is_real (as_interval e)) 0 1) 0 ≡ 0
  is_real_one e v = grind (arith, nat_tests)

  is_below_one : (e : CellEvent) → cond {A = ℕ} (nat_lt e.start c) (cond (is_below c (as_interval e)) 0 1) 0 ≡ 0
  is_below_one e = grind (arith, nat_tests)

  pub intervals_tell : (out : List Edge) (es : List CellEvent) → failing is_event es ≡ 0 → Rises 0 out → SameBag out (map as_interval (filter (starts_below c) es)) → ToldAhead c out es
  intervals_tell out es valid order is = record {
    order = order;
    real = none_fail is_real out es is valid is_real_one;
    below = none_fail (is_below c) out es is valid (λ e v. is_below_one e);
    told = record { weigh = λ w. parts w (is_below c) out es is ∙ (sum_eq is_event _ (λ e. total w (news_of 0 c e)) es (early w) valid ∙ sym (total-flat_map w (news_of 0 c) es)) };
    ahead = λ w.
        let a = parts w (is_from c) out es is in
        let b = sum_le is_event (λ e. cond (nat_lt e.start c) (part w (is_from c) e) 0) (λ e. total w (news_of c inf e)) es (late w) valid in
        let d = total-flat_map w (news_of c inf) es in
        omega (arith, a, b, d);
  }
