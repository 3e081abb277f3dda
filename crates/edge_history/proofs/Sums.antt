-- Sums over lists whose items all pass a test.
use Rattle.std.specs.Prelude.{◌≡◌, ◌↔◌, ℕ, ◌+◌, ◌≤◌, ◌&&◌, Bool, true, false, cond, List, [], ◌∷◌, ◌++◌, filter, IsTrue, All, refl}
use Rattle.std.specs.List.{AllByRecursion}
use Rattle.std.proofs.Common.{◌∙◌, ap, arith}
use Rattle.std.proofs.lemmas.List.Elements.{All-from_recursion, recursion_from_All}
use Rattle.tw_rows.specs.Bag.{SameBag, total}
use Rattle.tw_rows.proofs.Bags.{total-append, total-filter, total-add, total_same, total_zero}
use Rattle.edge_history.specs.Order.{failing}

pub sum_le : {X : Type 0} (p : X → Bool) (v u : X → ℕ) (xs : List X) → ((x : X) → p x ≡ true → v x ≤ u x) →
    failing p xs ≡ 0 → total v xs ≤ total u xs
sum_le p v u [] h none = omega arith
sum_le p v u (x ∷ xs) h none = pick (p x) refl (λ n. sum_le p v u xs h n)
  where
    pick : (b : Bool) → p x ≡ b → (failing p xs ≡ 0 → total v xs ≤ total u xs) → total v (x ∷ xs) ≤ total u (x ∷ xs)
    pick true k rest =
        let z = ap (λ c. cond {A = ℕ} c 0 1) k in
        let a = h x k in
        let b = rest (omega (arith, none, z)) in
        omega (arith, a, b)
    pick false k rest = let z = ap (λ c. cond {A = ℕ} c 0 1) k in absurd (omega (arith, none, z))

pub sum_eq : {X : Type 0} (p : X → Bool) (v u : X → ℕ) (xs : List X) → ((x : X) → p x ≡ true → v x ≡ u x) →
    failing p xs ≡ 0 → total v xs ≡ total u xs
sum_eq p v u xs h none =
    let a = sum_le p v u xs (λ x k. let e = h x k in omega (arith, e)) none in
    let b = sum_le p u v xs (λ x k. let e = h x k in omega (arith, e)) none in
    omega (arith, a, b)

-- a weaker test
pub weaker : {X : Type 0} (p q : X → Bool) (xs : List X) → ((x : X) → p x ≡ true → q x ≡ true) → failing p xs ≡ 0 →
    failing q xs ≡ 0
weaker p q xs h none =
    sum_eq p (λ x. cond (q x) 0 1) (λ x. 0) xs (λ x k. ap (λ b. cond {A = ℕ} b 0 1) (h x k)) none ∙ total_zero xs

both_one : (a b : Bool) → cond {A = ℕ} (a && b) 0 1 ≤ cond a 0 1 + cond b 0 1
both_one a b = grind arith

pub failing-both : {X : Type 0} (p q : X → Bool) (xs : List X) → failing p xs ≡ 0 → failing q xs ≡ 0 →
    failing (λ x. p x && q x) xs ≡ 0
failing-both p q xs a b =
    let s = sum_le (λ x. true) (λ x. cond (p x && q x) 0 1) (λ x. cond (p x) 0 1 + cond (q x) 0 1) xs
    (λ x _. both_one (p x) (q x)) (total_zero xs) in
    let t = total-add (λ x. cond {A = ℕ} (p x) 0 1) (λ x. cond (q x) 0 1) xs in
    omega (arith, s, t, a, b)

pub failing-append : {X : Type 0} (p : X → Bool) (xs ys : List X) → failing p xs ≡ 0 → failing p ys ≡ 0 →
    failing p (xs ++ ys) ≡ 0
failing-append p xs ys a b = let t = total-append (λ x. cond {A = ℕ} (p x) 0 1) xs ys in omega (arith, t, a, b)

pub failing-parts : {X : Type 0} (p : X → Bool) (xs ys : List X) → failing p (xs ++ ys) ≡ 0 →
    (failing p xs ≡ 0) × (failing p ys ≡ 0)
failing-parts p xs ys a =
    let t = total-append (λ x. cond {A = ℕ} (p x) 0 1) xs ys in
    (omega (arith, t, a), omega (arith, t, a))

pub failing-same : {X : Type 0} (p : X → Bool) (xs ys : List X) → SameBag xs ys → failing p ys ≡ 0 → failing p xs ≡ 0
failing-same p xs ys h k = h.weigh (λ x. cond (p x) 0 1) ∙ k

kept_one : (a b : Bool) → cond {A = ℕ} a (cond b 0 1) 0 ≤ cond b 0 1
kept_one a b = grind arith

-- of the items that are kept none fails a test that none failed before, and none fails the test by which they are kept
pub failing-filter : {X : Type 0} (p q : X → Bool) (xs : List X) → failing q xs ≡ 0 → failing q (filter p xs) ≡ 0
failing-filter p q xs h =
    let a = total-filter (λ x. cond {A = ℕ} (q x) 0 1) p xs in
    let b = sum_le (λ x. true) (λ x. cond (p x) (cond (q x) 0 1) 0) (λ x. cond (q x) 0 1) xs
    (λ x _. kept_one (p x) (q x)) (total_zero xs) in
    omega (arith, a, b, h)

kept_passes : (b : Bool) → cond {A = ℕ} b (cond b 0 1) 0 ≡ 0
kept_passes b = grind arith

pub failing-kept : {X : Type 0} (p : X → Bool) (xs : List X) → failing p (filter p xs) ≡ 0
failing-kept p xs =
    total-filter (λ x. cond {A = ℕ} (p x) 0 1) p xs
    ∙ (total_same _ (λ x. 0) xs (λ x. kept_passes (p x)) ∙ total_zero xs)

-- none fails where all pass
none_fails : {X : Type 0} (p : X → Bool) (xs : List X) → AllByRecursion (λ x. IsTrue (p x)) xs → failing p xs ≡ 0
none_fails p [] h = refl
none_fails p (x ∷ xs) h = let z = ap (λ b. cond {A = ℕ} b 0 1) h.0 in let r = none_fails p xs h.1 in omega (arith, z, r)

each_passes : {X : Type 0} (p : X → Bool) (xs : List X) → failing p xs ≡ 0 → AllByRecursion (λ x. IsTrue (p x)) xs
each_passes p [] h = tt
each_passes p (x ∷ xs) h = pick (p x) refl (λ n. each_passes p xs n)
  where
    pick : (b : Bool) → p x ≡ b → (failing p xs ≡ 0 → AllByRecursion (λ x. IsTrue (p x)) xs) →
        AllByRecursion (λ x. IsTrue (p x)) (x ∷ xs)
    pick true k rest = let z = ap (λ c. cond {A = ℕ} c 0 1) k in (k, rest (omega (arith, h, z)))
    pick false k rest = let z = ap (λ c. cond {A = ℕ} c 0 1) k in absurd (omega (arith, h, z))

pub failing-All : {X : Type 0} (p : X → Bool) (xs : List X) → (failing p xs ≡ 0) ↔ All (λ x. IsTrue (p x)) xs
failing-All p xs = (λ h. All-from_recursion _ xs (each_passes p xs h), λ h. none_fails p xs (recursion_from_All _ xs h))
