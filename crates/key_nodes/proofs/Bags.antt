-- More of weights and multisets.
use Rattle.std.specs.Prelude.{◌≡◌, ℕ, ◌+◌, ◌≤◌, nat_lt, Bool, true, false, cond, ◌||◌, List, [], ◌∷◌, map, filter, refl}
use Rattle.std.specs.List.{list_any}
use Rattle.std.proofs.Common.{sym, ◌∙◌, ap, arith, zero-add, add-zero}
use Rattle.std.proofs.lemmas.Bool.Decides.{nat_tests, same_from_decides, Decides-like}
use Rattle.std.proofs.lemmas.Bool.{lt-ltb, or_parts}
use Rattle.tw_rows.specs.Bag.{total, SameBag}
use Rattle.tw_rows.proofs.Bags.{total_same, total_swap}
use Rattle.key_nodes.specs.Runs.{Tells}
use Rattle.key_nodes.specs.Groups.{distinct}

pub total_le : {X : Type 0} (v w : X → ℕ) (xs : List X) → ((x : X) → v x ≤ w x) → total v xs ≤ total w xs
total_le v w [] h = omega arith
total_le v w (x ∷ xs) h = let a = h x in let b = total_le v w xs h in omega (arith, a, b)

-- whether an item passes, by how many do
pub any_by_weight : {X : Type 0} (p : X → Bool) (xs : List X) →
    list_any p xs ≡ nat_lt 0 (total (λ x. cond (p x) 1 0) xs)
any_by_weight p [] = refl
any_by_weight p (x ∷ xs) = step (p x) (list_any p xs) (total (λ x. cond (p x) 1 0) xs) (any_by_weight p xs)
  where
    step : (b rest : Bool) (n : ℕ) → rest ≡ nat_lt 0 n → (b || rest) ≡ nat_lt 0 (cond b 1 0 + n)
    step true rest n h = sym (lt-ltb 0 (1 + n) (omega arith))
    step false rest n h = h ∙ ap (nat_lt 0) (sym (zero-add n))

pub any_of_same : {X : Type 0} (p : X → Bool) (xs ys : List X) → SameBag xs ys → list_any p xs ≡ list_any p ys
any_of_same p xs ys h = any_by_weight p xs ∙ (ap (nat_lt 0) (h.weigh (λ x. cond (p x) 1 0)) ∙ sym (any_by_weight p ys))

-- where an item of the one list passes and the other has as many that pass, an item of the other passes
pub any_more : {X Y : Type 0} (p : X → Bool) (q : Y → Bool) (xs : List X) (ys : List Y) →
    total (λ x. cond (p x) 1 0) xs ≤ total (λ y. cond (q y) 1 0) ys → list_any p xs ≡ true → list_any q ys ≡ true
any_more p q xs ys h some =
    any_by_weight q ys
    ∙ above (total (λ x. cond (p x) 1 0) xs) (total (λ y. cond (q y) 1 0) ys) h (sym (any_by_weight p xs) ∙ some)
  where
    above : (m n : ℕ) → m ≤ n → nat_lt 0 m ≡ true → nat_lt 0 n ≡ true
    above m n low h = grind (arith, nat_tests)

pub any_map : {X Y : Type 0} (p : Y → Bool) (f : X → Y) (xs : List X) →
    list_any p (map f xs) ≡ list_any (λ x. p (f x)) xs
any_map p f [] = refl
any_map p f (x ∷ xs) = ap (λ b. p (f x) || b) (any_map p f xs)

pub filter_none : {X : Type 0} (p : X → Bool) (xs : List X) → list_any p xs ≡ false → filter p xs ≡ []
filter_none p [] h = refl
filter_none p (x ∷ xs) h = let k = or_parts (p x) (list_any p xs) h in rw (k.0) (filter_none p xs k.1)

-- sums over distinct keys
module _ {K : Type 0} (same : K → K → Bool) (tells : Tells same) where
  same_sym : (a b : K) → same a b ≡ same b a
  same_sym a b = same_from_decides (same a b) (same b a) (tells a b) (Decides-like (same b a) sym sym (tells b a))

  total_picked : (w : K → ℕ) (b : Bool) (x : K) (xs : List K) →
      total w (cond b xs (x ∷ xs)) ≡ cond b (total w xs) (w x + total w xs)
  total_picked w true x xs = refl
  total_picked w false x xs = refl

  count_step : (b e a : Bool) (n : ℕ) → (e ≡ true → a ≡ b) →
      cond b (cond a n 0) (cond e n 0 + cond a n 0) ≡ cond (e || a) n 0
  count_step true true true n h = refl
  count_step true true false n h = let z = h refl in absurd (cc)
  count_step true false a n h = refl
  count_step false true true n h = let z = h refl in absurd (cc)
  count_step false true false n h = add-zero n
  count_step false false a n h = zero-add (cond a n 0)

  pub count_distinct : (q : K) (n : ℕ) (ks : List K) →
      total (λ k. cond (same q k) n 0) (distinct same ks) ≡ cond (list_any (same q) ks) n 0
  count_distinct q n [] = refl
  count_distinct q n (k ∷ ks) =
      total_picked (λ k. cond (same q k) n 0) (list_any (same k) ks) k (distinct same ks)
      ∙ (ap (λ m. cond (list_any (same k) ks) m (cond (same q k) n 0 + m)) (count_distinct q n ks)
      ∙ count_step (list_any (same k) ks) (same q k) (list_any (same q) ks) n
      (λ t. ap (λ r. list_any (same r) ks) ((tells q k).0 t)))

  cond_swap : (b : Bool) (n m : ℕ) → (b ≡ true → n ≡ m) → cond b n 0 ≡ cond b m 0
  cond_swap true n m h = h refl
  cond_swap false n m h = refl

  -- a sum over the distinct keys of xs is one over those of ys, where each key of ys is one of xs and no other key
  -- weighs anything
  pub sum_distinct : (g : K → ℕ) (xs ys : List K) →
      ((k : K) → list_any (same k) ys ≡ false → g k ≡ 0) →
      ((k : K) → list_any (same k) ys ≡ true → list_any (same k) xs ≡ true) →
      total g (distinct same xs) ≡ total g (distinct same ys)
  sum_distinct g xs ys none within =
      total_same g (λ k. total (λ j. cond (same j k) (g j) 0) (distinct same ys)) (distinct same xs) (λ k.
      sym (total_same _ (λ j. cond (same k j) (g k) 0) (distinct same ys)
      (λ j. cond_swap (same j k) (g j) (g k) (λ t. ap g ((tells j k).0 t))
      ∙ ap (λ b. cond b (g k) 0) (same_sym j k))
      ∙ (count_distinct k (g k) ys ∙ there k (list_any (same k) ys) refl)))
      ∙ (total_swap (λ k j. cond (same j k) (g j) 0) (distinct same xs) (distinct same ys)
      ∙ total_same _ g (distinct same ys) (λ j. count_distinct j (g j) xs ∙ also j (list_any (same j) xs) refl))
    where
      there : (k : K) (b : Bool) → list_any (same k) ys ≡ b → cond b (g k) 0 ≡ g k
      there k true e = refl
      there k false e = sym (none k e)

      also_here : (k : K) (b : Bool) → list_any (same k) xs ≡ false → list_any (same k) ys ≡ b → 0 ≡ g k
      also_here k true e f = let z = within k f in absurd (cc)
      also_here k false e f = sym (none k f)

      also : (k : K) (b : Bool) → list_any (same k) xs ≡ b → cond b (g k) 0 ≡ g k
      also k true e = refl
      also k false e = also_here k (list_any (same k) ys) e refl
