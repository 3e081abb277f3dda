-- What holds of each element of a list, and of each two.
use Rattle.std.specs.Prelude.{◌≡◌, ℕ, zero, suc, ◌<◌, Bool, false, List, [], ◌∷◌, ◌++◌, take, drop, length, replicate, map, flat_map, slice_index_or}
use Rattle.std.specs.List.Sorted.{IsSortedBy}
use Rattle.std.proofs.Common.{arith, add-one}

abbrev pub Each : {X : Type 0} → (X → Type 0) → List X → Type 0
Each P [] = Unit {0}
Each P (x ∷ xs) = P x × Each P xs

-- each two, the earlier first
abbrev pub Pairs : {X : Type 0} → (X → X → Type 0) → List X → Type 0
Pairs R [] = Unit {0}
Pairs R (x ∷ xs) = Each (R x) xs × Pairs R xs

module _ {X : Type 0} (P : X → Type 0) where
  pub each_append : (xs ys : List X) → Each P xs → Each P ys → Each P (xs ++ ys)
  each_append [] ys h k = k
  each_append (x ∷ xs) ys h k = (h.0, each_append xs ys h.1 k)

  pub each_replicate : (n : ℕ) (x : X) → P x → Each P (replicate n x)
  each_replicate zero x h = tt
  each_replicate (suc n) x h = (h, each_replicate n x h)

  pub each_take : (n : ℕ) (xs : List X) → Each P xs → Each P (take n xs)
  each_take zero xs h = tt
  each_take (suc n) [] h = tt
  each_take (suc n) (x ∷ xs) h = (h.0, each_take n xs h.1)

  pub each_drop : (n : ℕ) (xs : List X) → Each P xs → Each P (drop n xs)
  each_drop zero xs h = h
  each_drop (suc n) [] h = tt
  each_drop (suc n) (x ∷ xs) h = each_drop n xs h.1

  pub each_split : (xs : List X) (x : X) (ys : List X) → Each P (xs ++ x ∷ ys) → P x
  each_split [] x ys h = h.0
  each_split (y ∷ xs) x ys h = each_split xs x ys h.1

  pub each_all : (xs : List X) → ((x : X) → P x) → Each P xs
  each_all [] h = tt
  each_all (x ∷ xs) h = (h x, each_all xs h)

pub each_more : {X : Type 0} (P Q : X → Type 0) (xs : List X) → ((x : X) → P x → Q x) → Each P xs → Each Q xs
each_more P Q [] f h = tt
each_more P Q (x ∷ xs) f h = (f x h.0, each_more P Q xs f h.1)

pub each_map : {X Y : Type 0} (P : Y → Type 0) (f : X → Y) (xs : List X) → Each (λ x. P (f x)) xs → Each P (map f xs)
each_map P f [] h = tt
each_map P f (x ∷ xs) h = (h.0, each_map P f xs h.1)

pub each_flat_map : {X Y : Type 0} (P : Y → Type 0) (f : X → List Y) (xs : List X) → Each (λ x. Each P (f x)) xs → Each P (flat_map f xs)
each_flat_map P f [] h = tt
each_flat_map P f (x ∷ xs) h = each_append P (f x) (flat_map f xs) h.0 (each_flat_map P f xs h.1)

module _ {X : Type 0} (R : X → X → Type 0) where
  pub pairs_append : (xs ys : List X) → Pairs R xs → Pairs R ys → Each (λ x. Each (R x) ys) xs → Pairs R (xs ++ ys)
  pairs_append [] ys h k l = k
  pairs_append (x ∷ xs) ys h k l = (each_append (R x) xs ys h.0 l.0, pairs_append xs ys h.1 k l.1)

  pub pairs_split : (xs : List X) (x : X) (ys : List X) → Pairs R (xs ++ x ∷ ys) → Each (R x) ys
  pairs_split [] x ys h = h.0
  pairs_split (y ∷ xs) x ys h = pairs_split xs x ys h.1

  pub pairs_within : (P : X → Type 0) (xs : List X) → ((x y : X) → P x → P y → R x y) → Each P xs → Pairs R xs
  pairs_within P [] f h = tt
  pairs_within P (x ∷ xs) f h = (each_more P (R x) xs (λ y p. f x y h.0 p) h.1, pairs_within P xs f h.1)

first_in_order : {X : Type 0} (lt : X → X → Bool) (x : X) (xs : List X) (d : X) → 0 < length xs → Each (λ y. lt y x ≡ false) xs → lt (slice_index_or xs 0 d) x ≡ false
first_in_order lt x [] d low h = absurd (omega arith)
first_in_order lt x (y ∷ xs) d low h = h.0

pub sorted_from_pairs : {X : Type 0} (lt : X → X → Bool) (xs : List X) → Pairs (λ x y. lt y x ≡ false) xs → IsSortedBy lt xs
sorted_from_pairs lt [] h k d low high = absurd (omega arith)
sorted_from_pairs lt (x ∷ xs) h zero d low high = first_in_order lt x xs d (omega arith) h.0
sorted_from_pairs lt (x ∷ xs) h (suc k) d low high = rw (add-one (suc k)) (rw (add-one k) at (sorted_from_pairs lt xs h.1 k d (omega arith) (omega arith)))
