-- Sums over the front of a list, as a loop over it keeps them.
use Rattle.std.specs.Prelude.{◌≡◌, ℕ, zero, suc, ◌+◌, ◌<◌, ◌≤◌, List, [], ◌∷◌, ◌++◌, length, take, get_or, flat_map}
use Rattle.std.proofs.Common.{ap, arith}
use Rattle.std.proofs.lemmas.List.{take_more}
use Rattle.tw_rows.specs.Bag.{total}
use Rattle.tw_rows.proofs.Bags.{total-append, total-flat_map}

pub total_more : {X : Type 0} (w : X → ℕ) (xs : List X) (i : ℕ) (d : X) → i < length xs → total w (take (i + 1) xs) ≡ total w (take i xs) + w (get_or xs i d)
total_more w xs i d low = let a = ap (total w) (take_more xs i d low) in let b = total-append w (take i xs) (get_or xs i d ∷ []) in omega (arith, a, b)

pub total_part : {X : Type 0} (w : X → ℕ) (xs : List X) (i : ℕ) (d : X) → i < length xs → total w (take i xs) + w (get_or xs i d) ≤ total w xs
total_part w [] i d low = absurd (omega arith)
total_part w (x ∷ xs) zero d low = omega arith
total_part w (x ∷ xs) (suc i) d low = let a = total_part w xs i d (omega arith) in omega (arith, a)

pub total-push : {X : Type 0} (w : X → ℕ) (xs ys : List X) (x : X) → ys ≡ xs ++ (x ∷ []) → total w ys ≡ total w xs + w x
total-push w xs ys x e = let a = ap (total w) e in let b = total-append w xs (x ∷ []) in omega (arith, a, b)

pub flat_more : {X Y : Type 0} (w : Y → ℕ) (f : X → List Y) (xs : List X) (i : ℕ) (x : X) (m n : ℕ) → i < length xs → x ≡ get_or xs i x →
    m ≡ n + total w (flat_map f (take i xs)) → (m2 : ℕ) → m2 ≡ m + total w (f x) → m2 ≡ n + total w (flat_map f (take (i + 1) xs))
flat_more w f xs i x m n low is so_far m2 more =
    let a = total-flat_map w f (take (i + 1) xs) in
    let b = total-flat_map w f (take i xs) in
    let c = total_more (λ y. total w (f y)) xs i x low in
    let d = ap (λ y. total w (f y)) is in
    omega (arith, a, b, c, d, so_far, more)

pub total_flat_more : {X Y : Type 0} (w : Y → ℕ) (f : X → List Y) (xs : List X) (i : ℕ) (d : X) → i < length xs → total w (flat_map f (take (i + 1) xs)) ≡ total w (flat_map f (take i xs)) + total w (f (get_or xs i d))
total_flat_more w f xs i d low =
    let a = total-flat_map w f (take (i + 1) xs) in
    let b = total-flat_map w f (take i xs) in
    let c = total_more (λ y. total w (f y)) xs i d low in
    omega (arith, a, b, c)
