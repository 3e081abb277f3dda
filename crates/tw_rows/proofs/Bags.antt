-- Weights of lists, and lists that are equal as multisets.
use Rattle.std.specs.Prelude.{◌≡◌, ℕ, ◌+◌, Bool, true, false, cond, List, [], ◌∷◌, ◌++◌, map, filter, flat_map, IsPermutation, refl}
use Rattle.std.proofs.Common.{sym, ◌∙◌, ap, arith, zero-add, add_assoc}
use Rattle.std.proofs.lemmas.List.Sums.{sum_by-cons}
use Rattle.std.proofs.lemmas.List.Sorted.{sum_by-IsPermutation}
use Rattle.std.specs.Prelude.{sum_by}
use Rattle.tw_rows.specs.Bag.{total, SameBag}

pub SameBag-refl : {X : Type 0} (xs : List X) → SameBag xs xs
SameBag-refl xs = record { weigh = λ w. refl }

pub SameBag-sym : {X : Type 0} (xs ys : List X) → SameBag xs ys → SameBag ys xs
SameBag-sym xs ys h = record { weigh = λ w. sym (h.weigh w) }

pub SameBag-trans : {X : Type 0} (xs ys zs : List X) → SameBag xs ys → SameBag ys zs → SameBag xs zs
SameBag-trans xs ys zs h k = record { weigh = λ w. h.weigh w ∙ k.weigh w }

pub total-append : {X : Type 0} (w : X → ℕ) (xs ys : List X) → total w (xs ++ ys) ≡ total w xs + total w ys
total-append w [] ys = sym (zero-add (total w ys))
total-append w (x ∷ xs) ys = ap (λ n. w x + n) (total-append w xs ys) ∙ sym (add_assoc (w x) (total w xs) (total w ys))

pub total-map : {X Y : Type 0} (w : Y → ℕ) (f : X → Y) (xs : List X) → total w (map f xs) ≡ total (λ x. w (f x)) xs
total-map w f [] = refl
total-map w f (x ∷ xs) = ap (λ n. w (f x) + n) (total-map w f xs)

total_of_cond : {X : Type 0} (w : X → ℕ) (b : Bool) (x : X) (rest : List X) → total w (cond b (x ∷ rest) rest) ≡ cond b (w x) 0 + total w rest
total_of_cond w true x rest = refl
total_of_cond w false x rest = sym (zero-add (total w rest))

pub total-filter : {X : Type 0} (w : X → ℕ) (p : X → Bool) (xs : List X) → total w (filter p xs) ≡ total (λ x. cond (p x) (w x) 0) xs
total-filter w p [] = refl
total-filter w p (x ∷ xs) = total_of_cond w (p x) x (filter p xs) ∙ ap (λ n. cond (p x) (w x) 0 + n) (total-filter w p xs)

pub total-flat_map : {X Y : Type 0} (w : Y → ℕ) (f : X → List Y) (xs : List X) → total w (flat_map f xs) ≡ total (λ x. total w (f x)) xs
total-flat_map w f [] = refl
total-flat_map w f (x ∷ xs) = total-append w (f x) (flat_map f xs) ∙ ap (λ n. total w (f x) + n) (total-flat_map w f xs)

-- equal weights weigh the same
pub total_same : {X : Type 0} (v w : X → ℕ) (xs : List X) → ((x : X) → v x ≡ w x) → total v xs ≡ total w xs
total_same v w [] h = refl
total_same v w (x ∷ xs) h = ap (λ n. n + total v xs) (h x) ∙ ap (λ n. w x + n) (total_same v w xs h)

pub total-is-sum_by : {X : Type 0} (w : X → ℕ) (xs : List X) → total w xs ≡ sum_by w xs
total-is-sum_by w [] = refl
total-is-sum_by w (x ∷ xs) = ap (λ n. w x + n) (total-is-sum_by w xs) ∙ sym (sum_by-cons w x xs)

pub SameBag-append : {X : Type 0} (xs ys us vs : List X) → SameBag xs ys → SameBag us vs → SameBag (xs ++ us) (ys ++ vs)
SameBag-append xs ys us vs h k = record { weigh = λ w. total-append w xs us ∙ (ap (λ n. n + total w us) (h.weigh w) ∙ ap (λ n. total w ys + n) (k.weigh w)) ∙ sym (total-append w ys vs) }

pub SameBag-map : {X Y : Type 0} (f : X → Y) (xs ys : List X) → SameBag xs ys → SameBag (map f xs) (map f ys)
SameBag-map f xs ys h = record { weigh = λ w. total-map w f xs ∙ h.weigh (λ x. w (f x)) ∙ sym (total-map w f ys) }

pub SameBag-filter : {X : Type 0} (p : X → Bool) (xs ys : List X) → SameBag xs ys → SameBag (filter p xs) (filter p ys)
SameBag-filter p xs ys h = record { weigh = λ w. total-filter w p xs ∙ h.weigh (λ x. cond (p x) (w x) 0) ∙ sym (total-filter w p ys) }

pub SameBag-flat_map : {X Y : Type 0} (f g : X → List Y) (xs ys : List X) → SameBag xs ys → ((x : X) → SameBag (f x) (g x)) → SameBag (flat_map f xs) (flat_map g ys)
SameBag-flat_map f g xs ys h k = record { weigh = λ w. total-flat_map w f xs ∙ (total_same (λ x. total w (f x)) (λ x. total w (g x)) xs (λ x. (k x).weigh w) ∙ h.weigh (λ x. total w (g x))) ∙ sym (total-flat_map w g ys) }

-- what a sort of std ensures
pub SameBag-from_IsPermutation : {X : Type 0} (xs ys : List X) → IsPermutation xs ys → SameBag xs ys
SameBag-from_IsPermutation xs ys h = record { weigh = λ w. total-is-sum_by w xs ∙ sym (sum_by-IsPermutation w xs ys h) ∙ sym (total-is-sum_by w ys) }

pub total-add : {X : Type 0} (v w : X → ℕ) (xs : List X) → total (λ x. v x + w x) xs ≡ total v xs + total w xs
total-add v w [] = refl
total-add v w (x ∷ xs) = let h = total-add v w xs in omega (arith, h)

pub total_zero : {X : Type 0} (xs : List X) → total (λ x. 0) xs ≡ 0
total_zero [] = refl
total_zero (x ∷ xs) = let h = total_zero xs in omega (arith, h)

-- the order of a double sum is free
pub total_swap : {X Y : Type 0} (w : X → Y → ℕ) (xs : List X) (ys : List Y) → total (λ x. total (w x) ys) xs ≡ total (λ y. total (λ x. w x y) xs) ys
total_swap w [] ys = sym (total_zero ys)
total_swap w (x ∷ xs) ys = ap (λ n. total (w x) ys + n) (total_swap w xs ys) ∙ sym (total-add (w x) (λ y. total (λ u. w u y) xs) ys)
