-- Instants at which nothing changes, and rows that are the same as multisets.
use Rattle.std.specs.Prelude.{◌≡◌, ℕ, zero, suc, ◌+◌, ◌<◌, ◌≤◌, Bool, true, false, ◌||◌, nat_lt, cond, List, [], ◌∷◌, ◌++◌, take, drop, map, flat_map, replicate, refl}
use Rattle.std.specs.Ordering.{eq_by_cmp}
use Rattle.std.proofs.Common.{sym, ◌∙◌, ap, arith, zero-add}
use Rattle.std.proofs.lemmas.Bool.{lt-ltb}
use Rattle.tw_rows.specs.Bag.{SameBag}
use Rattle.tw_rows.specs.Rows.{Row, row_cmp}
use Rattle.plan_model.specs.Opens.{how_often, before, rise, fall, starts_before, ends_before, open_before, named_at}
use Rattle.plan_model.specs.Changes.{Started, Ended, in_row_order, row_ends, row_starts, changes_at, changes}
use Rattle.plan_model.proofs.InOrder.{member, member-in_row_order, Rises-in_row_order, flat_map_within}
use Rattle.plan_model.proofs.Counting.{flat_map_none, no_row_starts, no_row_ends}

-- a row stands as often in lists that are the same as multisets
pub often_same : (r : Row) (xs ys : List Row) → SameBag xs ys → how_often r xs ≡ how_often r ys
often_same r xs ys h = h.weigh (λ x. cond (eq_by_cmp row_cmp r x) 1 0)

member_by_count : (q : Row) (xs : List Row) → member q xs ≡ nat_lt 0 (how_often q xs)
member_by_count q [] = refl
member_by_count q (x ∷ xs) = step (eq_by_cmp row_cmp q x) (member q xs) (how_often q xs) (member_by_count q xs)
  where
    step : (b rest : Bool) (n : ℕ) → rest ≡ nat_lt 0 n → (b || rest) ≡ nat_lt 0 (cond b 1 0 + n)
    step true rest n h = sym (lt-ltb 0 (1 + n) (omega arith))
    step false rest n h = h ∙ ap (nat_lt 0) (sym (zero-add n))

pub member_same : (q : Row) (xs ys : List Row) → SameBag xs ys → member q xs ≡ member q ys
member_same q xs ys h = member_by_count q xs ∙ (ap (nat_lt 0) (often_same q xs ys h) ∙ sym (member_by_count q ys))

pub flat_map_same : {X Y : Type 0} (f g : X → List Y) (xs : List X) → ((x : X) → f x ≡ g x) → flat_map f xs ≡ flat_map g xs
flat_map_same f g [] h = refl
flat_map_same f g (x ∷ xs) h = ap (λ l. l ++ flat_map f xs) (h x) ∙ ap (λ l. g x ++ l) (flat_map_same f g xs h)

-- row order doesn't see the order of the list
pub order_same : {X : Type 0} (f : Row → List X) (xs ys : List Row) → SameBag xs ys → flat_map f (in_row_order xs) ≡ flat_map f (in_row_order ys)
order_same f xs ys h = flat_map_within f (in_row_order ys) (in_row_order xs) (Rises-in_row_order ys) (Rises-in_row_order xs) (record {
  within = λ q m. member-in_row_order q ys ∙ (sym (member_same q xs ys h) ∙ (sym (member-in_row_order q xs) ∙ m));
  none = λ q m n. absurd (let a = member-in_row_order q ys in let b = member_same q xs ys h in let c = member-in_row_order q xs in cc);
})

-- an instant at which no row changes has no lines
pub quiet_at : (rows : ℕ → List Row) (t : ℕ) → SameBag (before rows t) (rows t) → changes_at rows t ≡ []
unfolding changes_at
quiet_at rows t h =
    ap (λ l. l ++ flat_map (row_starts rows t) (in_row_order (rows t)))
    (flat_map_none (row_ends rows t) (in_row_order (before rows t)) (λ r. no_row_ends rows r t (let z = often_same r (before rows t) (rows t) h in omega (arith, z))))
    ∙ flat_map_none (row_starts rows t) (in_row_order (rows t)) (λ r. no_row_starts rows r t (let z = often_same r (before rows t) (rows t) h in omega (arith, z)))

-- instants at which no row changes have no lines
pub quiet : (rows : ℕ → List Row) (a n : ℕ) → ((t : ℕ) → a ≤ t → t < a + n → SameBag (before rows t) (rows t)) → changes rows a n ≡ []
unfolding changes
quiet rows a zero h = refl
quiet rows a (suc n) h =
    ap (λ l. l ++ changes rows (suc a) n) (quiet_at rows a (h a (omega arith) (omega arith)))
    ∙ quiet rows (suc a) n (λ t low high. h t (omega arith) (omega arith))

-- the lines of a row depend on how often the row stands there, and on nothing else
module _ (f g : ℕ → List Row) (r : Row) (c : ℕ) (h : (u : ℕ) → u < c → how_often r (f u) ≡ how_often r (g u)) where
  before_alike : (t : ℕ) → t ≤ c → how_often r (before f t) ≡ how_often r (before g t)
  before_alike zero low = refl
  before_alike (suc t) low = h t (omega arith)

  rise_alike : (t : ℕ) → t < c → rise f r t ≡ rise g r t
  rise_alike t low = let a = h t low in let b = before_alike t (omega arith) in omega (arith, a, b)

  fall_alike : (t : ℕ) → t < c → fall f r t ≡ fall g r t
  fall_alike t low = let a = h t low in let b = before_alike t (omega arith) in omega (arith, a, b)

  starts_alike : (t : ℕ) → t ≤ c → starts_before f r t ≡ starts_before g r t
  starts_alike zero low = refl
  starts_alike (suc t) low =
      ap (λ l. l ++ replicate (rise f r t) t) (starts_alike t (omega arith))
      ∙ ap (λ n. starts_before g r t ++ replicate n t) (rise_alike t (omega arith))

  ends_alike : (t : ℕ) → t ≤ c → ends_before f r t ≡ ends_before g r t
  ends_alike zero low = refl
  ends_alike (suc t) low = let a = ends_alike t (omega arith) in let b = fall_alike t (omega arith) in omega (arith, a, b)

  named_alike : (t : ℕ) → t < c → named_at f r t ≡ named_at g r t
  named_alike t low =
      ap (λ n. take n (open_before f r t)) (fall_alike t low)
      ∙ (ap (λ n. take (fall g r t) (drop n (starts_before f r t))) (ends_alike t (omega arith))
      ∙ ap (λ l. take (fall g r t) (drop (ends_before g r t) l)) (starts_alike t (omega arith)))

  pub row_ends_alike : (t : ℕ) → t < c → row_ends f t r ≡ row_ends g t r
  row_ends_alike t low = ap (map (λ s. Ended t s r)) (named_alike t low)

  pub row_starts_alike : (t : ℕ) → t < c → row_starts f t r ≡ row_starts g t r
  row_starts_alike t low = ap (λ n. replicate n (Started t r)) (rise_alike t low)

before_same : (f g : ℕ → List Row) (c t : ℕ) → ((u : ℕ) → u < c → SameBag (f u) (g u)) → t ≤ c → SameBag (before f t) (before g t)
before_same f g c zero h low = record { weigh = λ w. refl }
before_same f g c (suc t) h low = h t (omega arith)

module _ (f g : ℕ → List Row) (c : ℕ) (h : (u : ℕ) → u < c → SameBag (f u) (g u)) where
  changes_at_same : (t : ℕ) → t < c → changes_at f t ≡ changes_at g t
  unfolding changes_at
  changes_at_same t low =
      ap (λ l. l ++ flat_map (row_starts f t) (in_row_order (f t)))
      (order_same (row_ends f t) (before f t) (before g t) (before_same f g c t h (omega arith))
      ∙ flat_map_same (row_ends f t) (row_ends g t) (in_row_order (before g t)) (λ r. row_ends_alike f g r c (λ u k. often_same r (f u) (g u) (h u k)) t low))
      ∙ ap (λ l. flat_map (row_ends g t) (in_row_order (before g t)) ++ l)
      (order_same (row_starts f t) (f t) (g t) (h t low)
      ∙ flat_map_same (row_starts f t) (row_starts g t) (in_row_order (g t)) (λ r. row_starts_alike f g r c (λ u k. often_same r (f u) (g u) (h u k)) t low))

  -- finality of what is written: the same rows below c have the same changes below c
  pub changes_same : (a n : ℕ) → a + n ≤ c → changes f a n ≡ changes g a n
  unfolding changes
  changes_same a zero low = refl
  changes_same a (suc n) low =
      ap (λ l. l ++ changes f (suc a) n) (changes_at_same a (omega arith))
      ∙ ap (λ l. changes_at g a ++ l) (changes_same (suc a) n (omega arith))
