-- The top rows of rows of several keys are those of each key, together.
use Rattle.std.specs.Prelude.{◌≡◌, ℕ, ◌+◌, nat_lt, ℤ, int_lt, Bool, true, false, cond, not, ◌&&◌, List, [], ◌∷◌, ◌++◌, flat_map, refl}
use Rattle.std.proofs.Common.{sym, ◌∙◌, ap, arith}
use Rattle.tw_rows.specs.Bag.{total, SameBag}
use Rattle.tw_rows.proofs.Bags.{total-append, total-filter}
use Rattle.edge_history.specs.Order.{failing}
use Rattle.edge_history.proofs.Sums.{sum_eq, weaker}
use Rattle.key_nodes.specs.Runs.{Tells}
use Rattle.key_nodes.specs.Tops.{greater, top_rows}
use Rattle.outer_top.specs.Keyed.{Block, AreOfKeys, IsOtherKey, AreOtherKeys, tops_of_blocks}

module _ {R K : Type 0} (key : R → K) (same : K → K → Bool) (tells : Tells same) (value : R → ℤ) (most : ℕ) where
  abbrev meets : R → R → Bool
  meets r x = same (key r) (key x)

  abbrev over : List R → R → ℕ
  over xs r = greater meets value xs r

  abbrev alone : List R → R → ℕ
  alone xs r = greater (λ a b. true) value xs r

  zero : (a b : Bool) → a ≡ false → cond {A = ℕ} (a && b) 1 0 ≡ 0
  zero true b h = absurd (cc)
  zero false b h = refl

  -- among rows of its key it meets all, and among others none
  over_own : (k : K) (r : R) → k ≡ key r → (xs : List R) → failing (λ x. same k (key x)) xs ≡ 0 → over xs r ≡ alone xs r
  over_own k r is xs h = sum_eq (λ x. same k (key x)) (λ x. cond {A = ℕ} (meets r x && int_lt (value r) (value x)) 1 0) (λ x. cond {A = ℕ} (true && int_lt (value r) (value x)) 1 0) xs
      (λ x p. ap (λ b. cond {A = ℕ} (b && int_lt (value r) (value x)) 1 0) (ap (λ q. same q (key x)) (sym is) ∙ p)) h

  over_others : (r : R) (xs : List R) → failing (λ x. not (same (key r) (key x))) xs ≡ 0 → over xs r ≡ 0
  over_others r xs h = sum_eq (λ x. not (same (key r) (key x))) (λ x. cond {A = ℕ} (meets r x && int_lt (value r) (value x)) 1 0) (λ x. 0) xs
      (λ x p. zero (meets r x) (int_lt (value r) (value x)) (is_false (meets r x) p)) h ∙ none xs
    where
      is_false : (b : Bool) → not b ≡ true → b ≡ false
      is_false true p = absurd (cc)
      is_false false p = refl

      none : (xs : List R) → total (λ x. 0) xs ≡ 0
      none [] = refl
      none (x ∷ xs) = let n = none xs in omega (arith, n)

  -- the rows of other keys are other rows
  others : (k : K) (es : List (Block R K)) → AreOfKeys key same es → failing (IsOtherKey same k) es ≡ 0 → failing (λ x. not (same k (key x))) (flat_map (λ e. e.1) es) ≡ 0
  others k [] own h = refl
  others k (e ∷ es) own h =
      let v : R → ℕ = λ x. cond {A = ℕ} (not (same k (key x))) 0 1 in
      let a = others k es (omega (arith, own)) (omega (arith, h)) in
      let b = total-append v e.1 (flat_map (λ (d : Block R K). d.1) es) in
      let c = block (same k e.0) refl (omega (arith, h)) e.1 (omega (arith, own)) in
      omega (arith, a, b, c)
    where
      block : (t : Bool) → same k e.0 ≡ t → cond {A = ℕ} (not t) 0 1 ≡ 0 → (xs : List R) → failing (λ x. same e.0 (key x)) xs ≡ 0 → failing (λ x. not (same k (key x))) xs ≡ 0
      block true is n xs h = absurd (omega (arith, n))
      block false is n [] h = refl
      block false is n (x ∷ xs) h =
          let r = block false is n xs (omega (arith, h)) in
          let c = one (same e.0 (key x)) refl (same k (key x)) refl (omega (arith, h)) in
          omega (arith, r, c)
        where
          one : (p : Bool) → same e.0 (key x) ≡ p → (q : Bool) → same k (key x) ≡ q → cond {A = ℕ} p 0 1 ≡ 0 → cond {A = ℕ} (not q) 0 1 ≡ 0
          one p u false w z = refl
          one false u true w z = absurd (omega (arith, z))
          one true u true w z =
              let a = (tells e.0 (key x)).0 u in
              let b = (tells k (key x)).0 w in
              let c = (tells k e.0).1 (b ∙ sym a) in
              absurd (cc (c, is))

  pub tops_by_key : (es : List (Block R K)) → AreOfKeys key same es → AreOtherKeys same es →
      SameBag (top_rows meets value most (flat_map (λ e. e.1) es)) (tops_of_blocks value most es)
  tops_by_key es own apart = record { weigh = λ w. go w es own apart }
    where
      go : (w : R → ℕ) (es : List (Block R K)) → AreOfKeys key same es → AreOtherKeys same es →
          total w (top_rows meets value most (flat_map (λ e. e.1) es)) ≡ total w (tops_of_blocks value most es)
      go w [] own apart = refl
      go w (e ∷ es) own apart =
          let b = e.1 in
          let rest = flat_map (λ (d : Block R K). d.1) es in
          let mine : failing (λ x. same e.0 (key x)) b ≡ 0 = omega (arith, own) in
          let theirs = others e.0 es (omega (arith, own)) apart.0 in
          let ih = go w es (omega (arith, own)) apart.1 in
          let a = total-filter w (λ r. nat_lt (over (b ++ rest) r) most) (b ++ rest) ∙ total-append (λ r. cond (nat_lt (over (b ++ rest) r) most) (w r) 0) b rest in
          let x = sum_eq (λ r. same e.0 (key r)) (λ r. cond (nat_lt (over (b ++ rest) r) most) (w r) 0) (λ r. cond (nat_lt (alone b r) most) (w r) 0) b
          (λ r p. ap (λ n. cond (nat_lt n most) (w r) 0) (first r ((tells e.0 (key r)).0 p) mine theirs)) mine in
          let y = sum_eq (λ r. not (same e.0 (key r))) (λ r. cond (nat_lt (over (b ++ rest) r) most) (w r) 0) (λ r. cond (nat_lt (over rest r) most) (w r) 0) rest
          (λ r p. ap (λ n. cond (nat_lt n most) (w r) 0) (second r p mine)) theirs in
          let p = total-filter w (λ r. nat_lt (alone b r) most) b in
          let q = total-filter w (λ r. nat_lt (over rest r) most) rest in
          let c = total-append w (top_rows (λ a b. true) value most b) (tops_of_blocks value most es) in
          omega (arith, ih, a, x, y, p, q, c)
        where
          over-append : (r : R) (xs ys : List R) → over (xs ++ ys) r ≡ over xs r + over ys r
          over-append r xs ys = total-append (λ x. cond {A = ℕ} (meets r x && int_lt (value r) (value x)) 1 0) xs ys

          first : (r : R) → e.0 ≡ key r → failing (λ x. same e.0 (key x)) e.1 ≡ 0 → failing (λ x. not (same e.0 (key x))) (flat_map (λ (d : Block R K). d.1) es) ≡ 0 →
              over (e.1 ++ flat_map (λ (d : Block R K). d.1) es) r ≡ alone e.1 r
          first r is mine theirs =
              let s = over-append r e.1 (flat_map (λ (d : Block R K). d.1) es) in
              let a = over_own e.0 r is e.1 mine in
              let b = over_others r (flat_map (λ (d : Block R K). d.1) es) (ap (λ k. failing (λ x. not (same k (key x))) (flat_map (λ (d : Block R K). d.1) es)) (sym is) ∙ theirs) in
              omega (arith, s, a, b)

          apart_from : (r : R) → not (same e.0 (key r)) ≡ true → (x : R) → same e.0 (key x) ≡ true → not (same (key r) (key x)) ≡ true
          apart_from r p x q = pick (same (key r) (key x)) refl
            where
              pick : (t : Bool) → same (key r) (key x) ≡ t → not t ≡ true
              pick false h = refl
              pick true h =
                  let u = (tells e.0 (key x)).0 q in
                  let v = (tells (key r) (key x)).0 h in
                  let z = (tells e.0 (key r)).1 (u ∙ sym v) in
                  let y : not true ≡ true = ap not (sym z) ∙ p in
                  absurd (cc (y))

          second : (r : R) → not (same e.0 (key r)) ≡ true → failing (λ x. same e.0 (key x)) e.1 ≡ 0 →
              over (e.1 ++ flat_map (λ (d : Block R K). d.1) es) r ≡ over (flat_map (λ (d : Block R K). d.1) es) r
          second r p mine =
              let s = over-append r e.1 (flat_map (λ (d : Block R K). d.1) es) in
              let w = weaker (λ x. same e.0 (key x)) (λ x. not (same (key r) (key x))) e.1 (λ x q. apart_from r p x q) mine in
              let a = over_others r e.1 w in
              omega (arith, s, a)
