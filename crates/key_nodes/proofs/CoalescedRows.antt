-- Coalesced events are events, and at each instant their rows are the rows that they were made of.
use Rattle.std.specs.Prelude.{◌≡◌, ℕ, zero, suc, ◌+◌, ◌-◌, ◌<◌, ◌≤◌, nat_le, Bool, true, false, cond, ◌||◌, List, [], ◌∷◌, ◌++◌, length, replicate, refl}
use Rattle.std.specs.List.{list_any}
use Rattle.std.proofs.Common.{sym, ◌∙◌, ap, arith, inl, inr}
use Rattle.std.proofs.lemmas.List.{length-append, length-replicate}
use Rattle.std.proofs.lemmas.List.Folds.{list_any-append}
use Rattle.std.proofs.lemmas.Bool.{cases_lt}
use Rattle.std.proofs.lemmas.Bool.Decides.{nat_tests}
use Rattle.tw_rows.specs.Instant.{inf}
use Rattle.tw_rows.specs.Bag.{total, SameBag}
use Rattle.tw_rows.specs.Event.{Event, lives_at, alive, AreEvents}
use Rattle.tw_rows.proofs.Bags.{total-append, total-flat_map, total_same, total_swap}
use Rattle.tw_rows.proofs.Lives.{total-alive, AreEvents-append}
use Rattle.key_nodes.specs.Runs.{Tells}
use Rattle.key_nodes.specs.Groups.{distinct}
use Rattle.key_nodes.proofs.Bags.{count_distinct}
use Rattle.key_nodes.proofs.Lives.{AreEvents-flat_map}
use Rattle.key_nodes.proofs.CoalescedTimes.{AllBelow, rises_below}
use Rattle.key_nodes.specs.Coalesced.{how_often, rows_before, rise_times, fall_times, paired_times, rows_below, row_events, coalesced}

abbrev times : ℕ → ℕ → ℕ
times zero v = 0
times (suc m) v = v + times m v

times-add : (m n v : ℕ) → times (m + n) v ≡ times m v + times n v
times-add zero n v = (let e : 0 + n ≡ n = omega arith in ap (λ k. times k v) e) ∙ (let d : times n v ≡ 0 + times n v = omega arith in d)
times-add (suc m) n v = (let e : suc m + n ≡ suc (m + n) = omega arith in ap (λ k. times k v) e) ∙ (let h = times-add m n v in let d : v + times (m + n) v ≡ (v + times m v) + times n v = omega (arith, h) in d)

times_both : (a b v : ℕ) → times b v + times (a - b) v ≡ times (b - a) v + times a v
times_both a b v = elim (cases_lt a b) [
  | inl low ↦ (
      let e : b ≡ (b - a) + a = omega (arith, low) in
      let z : a - b ≡ 0 = omega (arith, low) in
      let s = ap (λ k. times k v) e ∙ times-add (b - a) a v in
      let n = ap (λ k. times k v) z in
      omega (arith, s, n))
  | inr high ↦ (
      let e : a ≡ b + (a - b) = omega (arith, high) in
      let z : b - a ≡ 0 = omega (arith, high) in
      let s = ap (λ k. times k v) e ∙ times-add b (a - b) v in
      let n = ap (λ k. times k v) z in
      omega (arith, s, n))
]

module _ {R : Type 0} (r : R) where
  -- starts that come after as many as there are ends are open
  matched_more : (up more down : List ℕ) → length down ≤ length up → paired_times r (up ++ more) down ≡ paired_times r up down ++ paired_times r more []
  matched_more [] more [] h = refl
  matched_more [] more (b ∷ down) h = absurd (omega (arith, h))
  matched_more (a ∷ up) more [] h = ap (λ l. record { row = r; start = a; end = inf } ∷ l) (matched_more up more [] (omega arith))
  matched_more (a ∷ up) more (b ∷ down) h = ap (λ l. record { row = r; start = a; end = b } ∷ l) (matched_more up more down (omega (arith, h)))

  valid_more : (t m : ℕ) (up down : List ℕ) → t < inf → AllBelow t up → AreEvents (paired_times r up down) → AreEvents (paired_times r up (down ++ replicate m t))
  valid_more t m [] down low h v = tt
  valid_more t zero (a ∷ up) [] low h v = v
  valid_more t (suc m) (a ∷ up) [] low h v = (h.0, omega (arith, low), valid_more t m up [] low h.1 v.2)
  valid_more t m (a ∷ up) (b ∷ down) low h v = (v.0, v.1, valid_more t m up down low h.1 v.2)

  valid_open : (t k : ℕ) → t < inf → AreEvents (paired_times r (replicate k t) [])
  valid_open t zero low = tt
  valid_open t (suc k) low = (low, omega arith, valid_open t k low)

  module _ (w : R → ℕ) (u : ℕ) (now : u < inf) where
    abbrev sum_at : List (Event R) → ℕ
    sum_at es = total (λ e. cond (lives_at u e) (w e.row) 0) es

    one_open : (t : ℕ) → cond (lives_at u (record { row = r; start = t; end = inf })) (w r) 0 ≡ cond (nat_le t u) (w r) 0
    one_open t = grind (arith, nat_tests)

    one_shut : (a t : ℕ) → a < t → cond (lives_at u (record { row = r; start = a; end = t })) (w r) 0 + cond (nat_le t u) (w r) 0 ≡ cond (lives_at u (record { row = r; start = a; end = inf })) (w r) 0
    one_shut a t h = grind (arith, nat_tests)

    cond_more : (b : Bool) (x y : ℕ) → cond b (x + y) 0 ≡ cond b x 0 + cond b y 0
    cond_more true x y = refl
    cond_more false x y = omega arith

    cond_none : (b : Bool) → cond {A = ℕ} b 0 0 ≡ 0
    cond_none true = refl
    cond_none false = refl

    opened : (t k : ℕ) → sum_at (paired_times r (replicate k t) []) ≡ cond (nat_le t u) (times k (w r)) 0
    opened t zero = sym (cond_none (nat_le t u))
    opened t (suc k) =
        let a = one_open t in
        let b = opened t k in
        let c = cond_more (nat_le t u) (w r) (times k (w r)) in
        omega (arith, a, b, c)

    shut : (t m : ℕ) (up down : List ℕ) → AllBelow t up → length down + m ≤ length up →
        sum_at (paired_times r up (down ++ replicate m t)) + cond (nat_le t u) (times m (w r)) 0 ≡ sum_at (paired_times r up down)
    shut t zero [] down h low = let z = cond_none (nat_le t u) in omega (arith, z)
    shut t (suc m) [] down h low = absurd (omega (arith, low))
    shut t zero (a ∷ up) [] h low = let z = cond_none (nat_le t u) in omega (arith, z)
    shut t (suc m) (a ∷ up) [] h low =
        let x = one_shut a t h.0 in
        let y = shut t m up [] h.1 (omega (arith, low)) in
        let c = cond_more (nat_le t u) (w r) (times m (w r)) in
        omega (arith, x, y, c)
    shut t m (a ∷ up) (b ∷ down) h low = let y = shut t m up down h.1 (omega (arith, low)) in omega (arith, y)

module _ {R : Type 0} (same : R → R → Bool) (f : ℕ → List R) (r : R) where
  abbrev up : ℕ → List ℕ
  up n = rise_times same f r n

  abbrev down : ℕ → List ℕ
  down n = fall_times same f r n

  -- as many starts as ends and open rows
  pub lengths : (n : ℕ) → length (up n) ≡ length (down n) + how_often same r (rows_before f n)
  lengths zero = refl
  lengths (suc t) =
      let h = lengths t in
      let a = length-append (up t) (replicate (how_often same r (f t) - how_often same r (rows_before f t)) t) in
      let b = length-append (down t) (replicate (how_often same r (rows_before f t) - how_often same r (f t)) t) in
      let c = length-replicate (how_often same r (f t) - how_often same r (rows_before f t)) t in
      let d = length-replicate (how_often same r (rows_before f t) - how_often same r (f t)) t in
      omega (arith, h, a, b, c, d)

  fits : (t : ℕ) → length (down t ++ replicate (how_often same r (rows_before f t) - how_often same r (f t)) t) ≤ length (up t)
  fits t =
      let h = lengths t in
      let b = length-append (down t) (replicate (how_often same r (rows_before f t) - how_often same r (f t)) t) in
      let d = length-replicate (how_often same r (rows_before f t) - how_often same r (f t)) t in
      omega (arith, h, b, d)

  valid : (n : ℕ) → n ≤ inf → AreEvents (row_events same f n r)
  valid zero low = tt
  valid (suc t) low = rw (matched_more r (up t) (replicate (how_often same r (f t) - how_often same r (rows_before f t)) t) (down t ++ replicate (how_often same r (rows_before f t) - how_often same r (f t)) t) (fits t))
      (AreEvents-append _ _ (valid_more r t _ (up t) (down t) (omega (arith, low)) (rises_below same f r t) (valid t (omega (arith, low)))) (valid_open r t _ (omega (arith, low))))

  module _ (w : R → ℕ) (u : ℕ) (now : u < inf) where
    abbrev sum_of : ℕ → ℕ
    sum_of n = total (λ e. cond (lives_at u e) (w e.row) 0) (row_events same f n r)

    sum_step : (t : ℕ) → sum_of (suc t) + cond (nat_le t u) (times (how_often same r (rows_before f t) - how_often same r (f t)) (w r)) 0 ≡ sum_of t + cond (nat_le t u) (times (how_often same r (f t) - how_often same r (rows_before f t)) (w r)) 0
    sum_step t =
        let v : Event R → ℕ = λ e. cond (lives_at u e) (w e.row) 0 in
        let a = how_often same r (f t) in
        let b = how_often same r (rows_before f t) in
        let more = ap (total v) (matched_more r (up t) (replicate (a - b) t) (down t ++ replicate (b - a) t) (fits t)) ∙ total-append v (paired_times r (up t) (down t ++ replicate (b - a) t)) (paired_times r (replicate (a - b) t) []) in
        let x = opened r w u now t (a - b) in
        let l = lengths t in
        let y = shut r w u now t (b - a) (up t) (down t) (rises_below same f r t) (omega (arith, l)) in
        omega (arith, more, x, y)

    sum_is : (n : ℕ) → ((u < n) → sum_of n ≡ times (how_often same r (f u)) (w r)) × ((n ≤ u) → sum_of n ≡ times (how_often same r (rows_before f n)) (w r))
    sum_is zero = (λ l. absurd (omega (arith, l)), λ l. refl)
    sum_is (suc t) =
        let s = sum_step t in
        let ih = sum_is t in
        let m = times_both (how_often same r (f t)) (how_often same r (rows_before f t)) (w r) in
        let up_to : t ≤ u → sum_of (suc t) ≡ times (how_often same r (f t)) (w r) = λ l.
        let i = ih.1 l in
        let e = le_true t u l in
        let p = ap (λ b. cond b (times (how_often same r (rows_before f t) - how_often same r (f t)) (w r)) 0) e in
        let q = ap (λ b. cond b (times (how_often same r (f t) - how_often same r (rows_before f t)) (w r)) 0) e in
        omega (arith, s, i, m, p, q) in (
          (λ l. elim (cases_lt u t) [
            | inl before ↦ (
                let i = ih.0 before in
                let e = le_false t u before in
                let p = ap (λ b. cond b (times (how_often same r (rows_before f t) - how_often same r (f t)) (w r)) 0) e in
                let q = ap (λ b. cond b (times (how_often same r (f t) - how_often same r (rows_before f t)) (w r)) 0) e in
                omega (arith, s, i, p, q))
            | inr after ↦ (let e : t ≡ u = omega (arith, l, after) in up_to after ∙ ap (λ k. times (how_often same r (f k)) (w r)) e)
          ]),
          λ l. up_to (omega (arith, l)),
        )
      where
        le_true : (a b : ℕ) → a ≤ b → nat_le a b ≡ true
        le_true a b h = grind (arith, nat_tests)

        le_false : (a b : ℕ) → b < a → nat_le a b ≡ false
        le_false a b h = grind (arith, nat_tests)

module _ {R : Type 0} (same : R → R → Bool) (tells : Tells same) (f : ℕ → List R) where
  pub coalesced_valid : AreEvents (coalesced same f)
  coalesced_valid = AreEvents-flat_map (row_events same f inf) (distinct same (rows_below f inf)) (λ r. valid same f r inf (omega arith))

  times_often : (r : R) (v : ℕ) (xs : List R) → times (how_often same r xs) v ≡ total (λ x. cond (same r x) v 0) xs
  times_often r v [] = refl
  times_often r v (x ∷ xs) = one (same r x) (how_often same r xs) ∙ ap (λ n. cond (same r x) v 0 + n) (times_often r v xs)
    where
      one : (b : Bool) (n : ℕ) → times (cond b 1 0 + n) v ≡ cond b v 0 + times n v
      one true n = times-add 1 n v ∙ (let e : times 1 v + times n v ≡ v + times n v = omega arith in e)
      one false n = times-add 0 n v

  in_below : (u n : ℕ) → u < n → (x : R) → list_any (same x) (f u) ≡ true → list_any (same x) (rows_below f n) ≡ true
  in_below u zero l x h = absurd (omega (arith, l))
  in_below u (suc n) l x h = list_any-append (same x) (rows_below f n) (f n) ∙ elim (cases_lt u n) [
    | inl before ↦ left _ _ (in_below u n before x h)
    | inr after ↦ (let e : u ≡ n = omega (arith, l, after) in right _ _ (ap (λ k. list_any (same x) (f k)) (sym e) ∙ h))
  ]
    where
      left : (a b : Bool) → a ≡ true → (a || b) ≡ true
      left true b h = refl
      left false b h = absurd (cc)

      right : (a b : Bool) → b ≡ true → (a || b) ≡ true
      right true b h = refl
      right false b h = h

  -- each row of a list weighs once among the distinct rows of a list that has it
  each_once : (w : R → ℕ) (ks xs : List R) → ((x : R) → list_any (same x) xs ≡ true → list_any (same x) ks ≡ true) →
      total (λ x. total (λ r. cond (same r x) (w r) 0) (distinct same ks)) xs ≡ total w xs
  each_once w ks [] h = refl
  each_once w ks (x ∷ xs) h =
      let a : total (λ r. cond (same r x) (w r) 0) (distinct same ks) ≡ w x =
      total_same _ (λ r. cond (same x r) (w x) 0) (distinct same ks) (λ r. swap r (same r x) (same x r) refl refl)
      ∙ (count_distinct same tells x (w x) ks ∙ ap (λ b. cond b (w x) 0) (h x (first x xs))) in
      let b = each_once w ks xs (λ y k. h y (later y k)) in
      omega (arith, a, b)
    where
      swap : (r : R) (p q : Bool) → same r x ≡ p → same x r ≡ q → cond p (w r) 0 ≡ cond q (w x) 0
      swap r true true e k = ap w ((tells r x).0 e)
      swap r false false e k = refl
      swap r true false e k = let z = (tells x r).1 (sym ((tells r x).0 e)) in absurd (cc)
      swap r false true e k = let z = (tells r x).1 (sym ((tells x r).0 k)) in absurd (cc)

      first : (x : R) (xs : List R) → list_any (same x) (x ∷ xs) ≡ true
      first x xs = ap (λ b. b || list_any (same x) xs) ((tells x x).1 refl)

      later : (y : R) → list_any (same y) xs ≡ true → list_any (same y) (x ∷ xs) ≡ true
      later y k = go (same y x) k
        where
          go : (b : Bool) → list_any (same y) xs ≡ true → (b || list_any (same y) xs) ≡ true
          go true k = refl
          go false k = k

  -- at each instant the rows of the events are the rows
  pub coalesced_rows : (u : ℕ) → u < inf → SameBag (alive (coalesced same f) u) (f u)
  coalesced_rows u now = record {
    weigh = λ w.
        total-alive w (coalesced same f) u
        ∙ (total-flat_map (λ e. cond (lives_at u e) (w e.row) 0) (row_events same f inf) (distinct same (rows_below f inf))
        ∙ (total_same _ (λ r. total (λ x. cond (same r x) (w r) 0) (f u)) (distinct same (rows_below f inf)) (λ r. (sum_is same f r w u now inf).0 now ∙ times_often r (w r) (f u))
        ∙ (total_swap (λ r x. cond (same r x) (w r) 0) (distinct same (rows_below f inf)) (f u)
        ∙ each_once w (rows_below f inf) (f u) (λ x h. in_below u inf now x h))));
  }
