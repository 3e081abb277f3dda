-- What is among the items of a list, by weights.
use Rattle.std.specs.Prelude.{◌≡◌, ℕ, ◌≤◌, Bool, true, false, cond, List, [], ◌∷◌, refl}
use Rattle.std.proofs.Common.{ap, arith}
use Rattle.tw_rows.specs.Bag.{total}
use Rattle.edge_history.specs.Order.{many, failing}

-- the item is in the list
pub record In {X : Type 0} (x : X) (xs : List X) : Type 0 where
  pub within : (w : X → ℕ) → w x ≤ total w xs

module _ {X : Type 0} where
  -- an item that passes the test, where some do
  pub found : (p : X → Bool) (xs : List X) → 1 ≤ many p xs → (x : X) × (p x ≡ true) × In x xs
  found p [] h = absurd (omega (arith, h))
  found p (x ∷ xs) h = pick (λ k. found p xs k) (p x) refl
    where
      pick : (1 ≤ many p xs → (y : X) × (p y ≡ true) × In y xs) → (b : Bool) → p x ≡ b → (y : X) × (p y ≡ true) × In y (x ∷ xs)
      pick rest true e = (x, e, record { within = λ w. (omega arith) })
      pick rest false e =
          let z = ap (λ b. cond {A = ℕ} b 1 0) e in
          let r = rest (omega (arith, h, z)) in
          (r.0, r.1, record { within = λ w. (let k = r.2.within w in omega (arith, k)) })

  -- an item that passes the test counts
  pub counted : (p : X → Bool) (x : X) (xs : List X) → In x xs → p x ≡ true → 1 ≤ many p xs
  counted p x xs i h =
      let z = ap (λ b. cond {A = ℕ} b 1 0) h in
      let k = i.within (λ y. cond (p y) 1 0) in
      omega (arith, z, k)

  -- none that passes is there, where none does
  pub uncounted : (p : X → Bool) (x : X) (xs : List X) → In x xs → many p xs ≡ 0 → p x ≡ false
  uncounted p x xs i none = pick (p x) refl
    where
      pick : (b : Bool) → p x ≡ b → p x ≡ false
      pick false e = e
      pick true e = absurd (let k = counted p x xs i e in omega (arith, k, none))

  pub passes : (p : X → Bool) (x : X) (xs : List X) → In x xs → failing p xs ≡ 0 → p x ≡ true
  passes p x xs i none = pick (p x) refl
    where
      pick : (b : Bool) → p x ≡ b → p x ≡ true
      pick true e = e
      pick false e = absurd (
          let z = ap (λ b. cond {A = ℕ} b 0 1) e in
          let k = i.within (λ y. cond (p y) 0 1) in
          omega (arith, z, k, none))

  all_pass_in : (p : X → Bool) (ys xs : List X) → ((w : X → ℕ) → total w ys ≤ total w xs) → ((x : X) → In x xs → p x ≡ true) → failing p ys ≡ 0
  all_pass_in p [] xs part h = refl
  all_pass_in p (y ∷ ys) xs part h =
      let e = h y (record { within = λ w. (let k = part w in omega (arith, k)) }) in
      let z = ap (λ b. cond {A = ℕ} b 0 1) e in
      let r = all_pass_in p ys xs (λ w. (let k = part w in omega (arith, k))) h in
      omega (arith, z, r)

  -- all pass, where each does that is there
  pub all_pass : (p : X → Bool) (xs : List X) → ((x : X) → In x xs → p x ≡ true) → failing p xs ≡ 0
  all_pass p xs h = all_pass_in p xs xs (λ w. (omega arith)) h

  -- none passes, where none does that is there
  pub none_pass : (p : X → Bool) (xs : List X) → ((x : X) → In x xs → p x ≡ false) → many p xs ≡ 0
  none_pass p [] h = refl
  none_pass p (x ∷ xs) h =
      let z = ap (λ b. cond {A = ℕ} b 1 0) (h x (record { within = λ w. (omega arith) })) in
      let r = none_pass p xs (λ y i. h y (record { within = λ w. (let k = i.within w in omega (arith, k)) })) in
      omega (arith, z, r)

  -- what is in a part is in the whole
  pub in_whole : (x : X) (xs ys : List X) → In x xs → ((w : X → ℕ) → total w xs ≤ total w ys) → In x ys
  in_whole x xs ys i part = record { within = λ w. (let a = i.within w in let b = part w in omega (arith, a, b)) }
