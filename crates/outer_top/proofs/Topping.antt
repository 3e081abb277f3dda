-- The rows of the groups that are shown are the top rows of the key.
use Rattle.std.specs.Prelude.{◌≡◌, ℕ, suc, ◌+◌, ◌<◌, ◌≤◌, nat_lt, nat_le, ℤ, int_lt, Bool, true, false, cond, ◌&&◌, List, [], ◌∷◌, ◌++◌, length, refl}
use Rattle.std.proofs.Common.{sym, ◌∙◌, ap, arith, inl, inr}
use Rattle.std.proofs.lemmas.List.{length-append}
use Rattle.std.specs.Ordering.{int_eq}
use Rattle.std.proofs.lemmas.Int.{ints}
use Rattle.std.proofs.lemmas.Bool.Decides.{nat_tests, Decides-int_eq}
use Rattle.tw_rows.specs.Bag.{total, SameBag}
use Rattle.tw_rows.specs.declared.cells.Datum.{Datum}
use Rattle.tw_rows.specs.declared.edge.HeldRow.{HeldRow}
use Rattle.tw_rows.proofs.Bags.{total-append, total-map, total-filter, total_same, total_swap}
use Rattle.edge_history.specs.Order.{failing, many}
use Rattle.edge_history.specs.Opens.{bare}
use Rattle.key_nodes.specs.Tops.{greater, top_rows}
use Rattle.outer_top.specs.Ranks.{Group, rows_in, value_at, has_rank, AreRanked, AreBelow, AreFrom, AreApart, AreFew, AreEnough}

module _ (value : List Datum → ℤ) where
  -- how many rows have a value above this one
  abbrev above : ℤ → List HeldRow → ℕ
  above v rows = total (λ r. cond {A = ℕ} (int_lt v (value r.cells)) 1 0) rows

  one_at_most : (b : Bool) → cond {A = ℕ} b 1 0 ≤ 1
  one_at_most true = omega arith
  one_at_most false = omega arith

  above_few : (v : ℤ) (rows : List HeldRow) → above v rows ≤ length rows
  above_few v [] = omega arith
  above_few v (r ∷ rows) = let a = above_few v rows in let z = one_at_most (int_lt v (value r.cells)) in omega (arith, a, z)

  is_value : (v : ℤ) (n : ℕ) → cond {A = ℕ} (int_eq v (value_at n)) 0 1 ≡ 0 → v ≡ value_at n
  is_value v n h = go (int_eq v (value_at n)) refl h
    where
      go : (b : Bool) → int_eq v (value_at n) ≡ b → cond {A = ℕ} b 0 1 ≡ 0 → v ≡ value_at n
      go true e h = grind (arith, ints, Decides-int_eq)
      go false e h = absurd (omega (arith, h))

  not_over : (k n : ℕ) → n ≤ k → int_lt (value_at k) (value_at n) ≡ false
  unfolding value_at
  not_over k n low = grind (arith, ints)

  is_over : (k n : ℕ) → k < n → int_lt (value_at k) (value_at n) ≡ true
  unfolding value_at
  is_over k n low = grind (arith, ints)

  above_none : (k n : ℕ) (rows : List HeldRow) → failing (λ r. has_rank value r.cells n) rows ≡ 0 → n ≤ k → above (value_at k) rows ≡ 0
  above_none k n [] h low = refl
  above_none k n (r ∷ rows) h low =
      let a = above_none k n rows (omega (arith, h)) low in
      let s = is_value (value r.cells) n (omega (arith, h)) in
      let z = ap (λ v. cond {A = ℕ} (int_lt (value_at k) v) 1 0) s ∙ ap (λ b. cond {A = ℕ} b 1 0) (not_over k n low) in
      omega (arith, a, z)

  above_all : (k n : ℕ) (rows : List HeldRow) → failing (λ r. has_rank value r.cells n) rows ≡ 0 → k < n → above (value_at k) rows ≡ length rows
  above_all k n [] h low = refl
  above_all k n (r ∷ rows) h low =
      let a = above_all k n rows (omega (arith, h)) low in
      let s = is_value (value r.cells) n (omega (arith, h)) in
      let z = ap (λ v. cond {A = ℕ} (int_lt (value_at k) v) 1 0) s ∙ ap (λ b. cond {A = ℕ} b 1 0) (is_over k n low) in
      omega (arith, a, z)

  above-append : (v : ℤ) (xs ys : List HeldRow) → above v (xs ++ ys) ≡ above v xs + above v ys
  above-append v xs ys = total-append (λ r. cond {A = ℕ} (int_lt v (value r.cells)) 1 0) xs ys

module _ (value : List Datum → ℤ) where
  -- below all hidden ranks none of them is above
  below_none : (k : ℕ) (gs : List Group) → AreRanked (has_rank value) gs → AreBelow k gs → above value (value_at k) (rows_in gs) ≡ 0
  below_none k [] own h = refl
  below_none k (g ∷ gs) own h =
      let a = below_none k gs (omega (arith, own)) (omega (arith, h)) in
      let low : g.0 ≤ k = grind (arith, nat_tests, h) in
      let z = above_none value k g.0 g.1 (omega (arith, own)) low in
      let s = above-append value (value_at k) g.1 (rows_in gs) in
      omega (arith, a, z, s)

  from_all : (k : ℕ) (gs : List Group) → AreRanked (has_rank value) gs → AreFrom (suc k) gs → above value (value_at k) (rows_in gs) ≡ length (rows_in gs)
  from_all k [] own h = refl
  from_all k (g ∷ gs) own h =
      let a = from_all k gs (omega (arith, own)) (omega (arith, h)) in
      let low : k < g.0 = grind (arith, nat_tests, h) in
      let z = above_all value k g.0 g.1 (omega (arith, own)) low in
      let s = above-append value (value_at k) g.1 (rows_in gs) in
      let l = length-append g.1 (rows_in gs) in
      omega (arith, a, z, s, l)

  module _ (most : ℕ) (shown hidden : List Group) (shown_own : AreRanked (has_rank value) shown) (hidden_own : AreRanked (has_rank value) hidden) (apart : AreApart shown hidden) where
    -- a rank with fewer than so many rows above it
    abbrev passing : ℤ → Bool
    passing v = nat_lt (above value v (rows_in shown) + above value v (rows_in hidden)) most

    abbrev passes : ℕ → Bool
    passes k = passing (value_at k)

    is_low : (m n : ℕ) → m < n → nat_lt m n ≡ true
    is_low m n h = grind (arith, nat_tests)

    is_high : (m n : ℕ) → n ≤ m → nat_lt m n ≡ false
    is_high m n h = grind (arith, nat_tests)

    -- from the least rank that is shown on
    limit : (gs : List Group) → AreRanked (has_rank value) gs → AreFew most gs → (f : ℕ) × (AreFrom f gs × ((k : ℕ) → f ≤ k → above value (value_at k) (rows_in gs) < most))
    limit [] own few = let a = few.few in (0, (refl, λ k low. omega (arith, a)))
    limit (g ∷ gs) own few =
        let l = few.least in
        let z : cond {A = ℕ} (nat_le g.0 g.0) 0 1 ≡ 0 = grind (arith, nat_tests) in (
          g.0,
          (
            omega (arith, l, z),
            λ k low.
                let a = few.few in
                let n = above_none value k g.0 g.1 (omega (arith, own)) low in
                let s = above-append value (value_at k) g.1 (rows_in gs) in
                let m = above_few value (value_at k) (rows_in gs) in
                omega (arith, a, n, s, m),
          ),
        )

    -- each group that is shown passes, and none that is hidden
    shown_pass : (f : ℕ) → ((k : ℕ) → f ≤ k → above value (value_at k) (rows_in shown) < most) → (gs : List Group) → AreFrom f gs → AreApart gs hidden →
        failing (λ (g : Group). passes g.0) gs ≡ 0
    shown_pass f few [] from h = refl
    shown_pass f few (g ∷ gs) from h =
        let r = shown_pass f few gs (omega (arith, from)) (omega (arith, h)) in
        let low : f ≤ g.0 = grind (arith, nat_tests, from) in
        let a = few g.0 low in
        let b = below_none g.0 hidden hidden_own (omega (arith, h)) in
        let z = ap (λ t. cond {A = ℕ} t 0 1) (is_low (above value (value_at g.0) (rows_in shown) + above value (value_at g.0) (rows_in hidden)) most (omega (arith, a, b))) in
        omega (arith, r, z)

    each_above : (hs : List Group) → total (λ h. failing (λ (s : Group). nat_lt h.0 s.0) shown) hs ≡ 0 → most ≤ length (rows_in shown) →
        many (λ (g : Group). passes g.0) hs ≡ 0
    each_above [] h full = refl
    each_above (g ∷ hs) h full =
        let r = each_above hs (omega (arith, h)) full in
        let a = from_all g.0 shown shown_own (omega (arith, h)) in
        let z = ap (λ t. cond {A = ℕ} t 1 0) (is_high (above value (value_at g.0) (rows_in shown) + above value (value_at g.0) (rows_in hidden)) most (omega (arith, a, full))) in
        omega (arith, r, z)

    hidden_fail : AreEnough most shown hidden → many (λ (g : Group). passes g.0) hidden ≡ 0
    hidden_fail enough = elim enough [
      | inl none ↦ ap (many (λ (g : Group). passes g.0)) none
      | inr full ↦ each_above hidden (sym (total_swap (λ (s h : Group). cond {A = ℕ} (nat_lt h.0 s.0) 0 1) shown hidden) ∙ apart) full
    ]

    -- what passes of groups that all pass, and of groups of which none does
    of_group : (w : HeldRow → ℕ) (k : ℕ) (rows : List HeldRow) → failing (λ r. has_rank value r.cells k) rows ≡ 0 →
        total (λ r. cond (passing (value r.cells)) (w r) 0) rows ≡ cond (passes k) (total w rows) 0
    of_group w k [] h = pick (passes k)
      where
        pick : (b : Bool) → ◌≡◌ {A = ℕ} 0 (cond b 0 0)
        pick true = refl
        pick false = refl
    of_group w k (r ∷ rows) h =
        let a = of_group w k rows (omega (arith, h)) in
        let same = is_value value (value r.cells) k (omega (arith, h)) in
        let b = ap (λ n. cond (passing n) (w r) 0) same in
        pick (passes k) a b
      where
        pick : (p : Bool) → total (λ r. cond (passing (value r.cells)) (w r) 0) rows ≡ cond p (total w rows) 0 → cond (passing (value r.cells)) (w r) 0 ≡ cond p (w r) 0 →
            cond (passing (value r.cells)) (w r) 0 + total (λ r. cond (passing (value r.cells)) (w r) 0) rows ≡ cond p (w r + total w rows) 0
        pick true a b = omega (arith, a, b)
        pick false a b = omega (arith, a, b)

    abbrev kept : (HeldRow → ℕ) → HeldRow → ℕ
    kept w r = cond (passing (value r.cells)) (w r) 0

    all_kept : (w : HeldRow → ℕ) (gs : List Group) → AreRanked (has_rank value) gs → failing (λ (g : Group). passes g.0) gs ≡ 0 → total (kept w) (rows_in gs) ≡ total w (rows_in gs)
    all_kept w [] own h = refl
    all_kept w (g ∷ gs) own h =
        let a = all_kept w gs (omega (arith, own)) (omega (arith, h)) in
        let b = of_group w g.0 g.1 (omega (arith, own)) in
        let c = total-append (kept w) g.1 (rows_in gs) in
        let d = total-append w g.1 (rows_in gs) in
        pick (passes g.0) (let x : cond {A = ℕ} (passes g.0) 0 1 ≡ 0 = omega (arith, h) in x) b a c d
      where
        pick : (p : Bool) → cond {A = ℕ} p 0 1 ≡ 0 → total (kept w) g.1 ≡ cond p (total w g.1) 0 → total (kept w) (rows_in gs) ≡ total w (rows_in gs) →
            total (kept w) (g.1 ++ rows_in gs) ≡ total (kept w) g.1 + total (kept w) (rows_in gs) → total w (g.1 ++ rows_in gs) ≡ total w g.1 + total w (rows_in gs) →
            total (kept w) (g.1 ++ rows_in gs) ≡ total w (g.1 ++ rows_in gs)
        pick true z b a c d = omega (arith, a, b, c, d)
        pick false z b a c d = absurd (omega (arith, z))

    none_kept : (w : HeldRow → ℕ) (gs : List Group) → AreRanked (has_rank value) gs → many (λ (g : Group). passes g.0) gs ≡ 0 → total (kept w) (rows_in gs) ≡ 0
    none_kept w [] own h = refl
    none_kept w (g ∷ gs) own h =
        let a = none_kept w gs (omega (arith, own)) (omega (arith, h)) in
        let b = of_group w g.0 g.1 (omega (arith, own)) in
        let c = total-append (kept w) g.1 (rows_in gs) in
        pick (passes g.0) (let x : cond {A = ℕ} (passes g.0) 1 0 ≡ 0 = omega (arith, h) in x) b a c
      where
        pick : (p : Bool) → cond {A = ℕ} p 1 0 ≡ 0 → total (kept w) g.1 ≡ cond p (total w g.1) 0 → total (kept w) (rows_in gs) ≡ 0 →
            total (kept w) (g.1 ++ rows_in gs) ≡ total (kept w) g.1 + total (kept w) (rows_in gs) →
            total (kept w) (g.1 ++ rows_in gs) ≡ 0
        pick true z b a c = absurd (omega (arith, z))
        pick false z b a c = omega (arith, a, b, c)

    module _ (few : AreFew most shown) (enough : AreEnough most shown hidden) where
      abbrev all : List (List Datum)
      all = bare (rows_in shown ++ rows_in hidden)

      greater_is : (r : List Datum) → greater (λ a b. true) value all r ≡ above value (value r) (rows_in shown) + above value (value r) (rows_in hidden)
      greater_is r =
          total-map (λ x. cond {A = ℕ} (true && int_lt (value r) (value x)) 1 0) (λ (x : HeldRow). x.cells) (rows_in shown ++ rows_in hidden)
          ∙ above-append value (value r) (rows_in shown) (rows_in hidden)

      pub shown_are_top : SameBag (top_rows (λ a b. true) value most all) (bare (rows_in shown))
      shown_are_top = record {
        weigh = λ w.
            let l = limit shown shown_own few in
            let p = shown_pass l.0 l.1.1 shown l.1.0 apart in
            let q = hidden_fail enough in
            let v : HeldRow → ℕ = λ r. w r.cells in
            let a = all_kept v shown shown_own p in
            let b = none_kept v hidden hidden_own q in
            let c = total-append (kept v) (rows_in shown) (rows_in hidden) in
            let d = total-map w (λ (r : HeldRow). r.cells) (rows_in shown) in
            let e = total-filter w (λ r. nat_lt (greater (λ a b. true) value all r) most) all
            ∙ (total_same _ (λ r. cond (passing (value r)) (w r) 0) all (λ r. ap (λ n. cond (nat_lt n most) (w r) 0) (greater_is r))
            ∙ total-map (λ r. cond (passing (value r)) (w r) 0) (λ (x : HeldRow). x.cells) (rows_in shown ++ rows_in hidden)) in
            omega (arith, a, b, c, d, e);
      }
