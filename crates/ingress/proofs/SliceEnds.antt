-- Where slices end, by how many edges come below each time.
use Rattle.std.specs.Prelude.{◌≡◌, ℕ, suc, ◌+◌, ◌<◌, ◌≤◌, ◌⊎◌, max, min, nat_lt, nat_le, Bool, true, false, cond, List, [], ◌∷◌, map, filter, refl}
use Rattle.std.specs.List.{fold, AllByRecursion}
use Rattle.std.proofs.Common.{sym, ◌∙◌, ap, arith, inl, inr}
use Rattle.std.proofs.lemmas.Bool.{cases_lt}
use Rattle.std.proofs.lemmas.Bool.Decides.{nat_tests}
use Rattle.tw_rows.specs.declared.edge.Edge.{Edge}
use Rattle.edge_history.specs.Order.{failing, is_below}
use Rattle.ingress.specs.Slices.{count_below, greatest_or, least_or, cuts, cuts_within, slice_end}

one_rises : (x z s : ℕ) → x ≤ z → cond {A = ℕ} (nat_lt s x) 1 0 ≤ cond (nat_lt s z) 1 0
one_rises x z s le = grind (arith, nat_tests)

-- more edges come below a later time
pub counts_rise : (x z : ℕ) (es : List Edge) → x ≤ z → count_below x es ≤ count_below z es
counts_rise x z [] le = omega arith
counts_rise x z (e ∷ es) le = let a = one_rises x z e.sync le in let b = counts_rise x z es le in omega (arith, a, b)

-- below the time after a sync come more edges than below it
weaker : {X : Type 0} (P Q : X → Type 0) → ((x : X) → P x → Q x) → (xs : List X) → AllByRecursion P xs → AllByRecursion Q xs
weaker P Q f [] h = tt
weaker P Q f (x ∷ xs) h = (f x h.0, weaker P Q f xs h.1)

one_at : (s : ℕ) → cond {A = ℕ} (nat_lt s s) 1 0 + 1 ≤ cond (nat_lt s (suc s)) 1 0
one_at s = grind (arith, nat_tests)

each_counts : (es : List Edge) → AllByRecursion (λ e. count_below e.sync es < count_below (suc e.sync) es) es
each_counts [] = tt
each_counts (x ∷ xs) = (
  (let a = one_at x.sync in let b = counts_rise x.sync (suc x.sync) xs (omega arith) in omega (arith, a, b)),
  weaker (λ e. count_below e.sync xs < count_below (suc e.sync) xs) (λ e. count_below e.sync (x ∷ xs) < count_below (suc e.sync) (x ∷ xs))
      (λ e h. let a = one_rises e.sync (suc e.sync) x.sync (omega arith) in omega (arith, a, h)) xs (each_counts xs),
)

mapped : {X : Type 0} (f : X → ℕ) (P : ℕ → Type 0) (xs : List X) → AllByRecursion (λ x. P (f x)) xs → AllByRecursion P (map f xs)
mapped f P [] h = tt
mapped f P (x ∷ xs) h = (h.0, mapped f P xs h.1)

kept : (P : ℕ → Type 0) (q : ℕ → Bool) (xs : List ℕ) → AllByRecursion P xs → AllByRecursion (λ x. P x × (q x ≡ true)) (filter q xs)
kept P q [] h = tt
kept P q (x ∷ xs) h = go (q x) refl (kept P q xs h.1)
  where
    go : (b : Bool) → q x ≡ b → AllByRecursion (λ x. P x × (q x ≡ true)) (filter q xs) →
        AllByRecursion (λ x. P x × (q x ≡ true)) (cond b (x ∷ filter q xs) (filter q xs))
    go true e rest = ((h.0, e), rest)
    go false e rest = rest

none_kept : (q : ℕ → Bool) (xs : List ℕ) → AllByRecursion (λ x. q x ≡ false) xs → filter q xs ≡ []
none_kept q [] h = refl
none_kept q (x ∷ xs) h = ap (λ b. cond b (x ∷ filter q xs) (filter q xs)) h.0 ∙ none_kept q xs h.1

-- m is one of the numbers
abbrev Has : ℕ → List ℕ → Type 0
Has m [] = ⊥
Has m (x ∷ xs) = (x ≡ m) ⊎ Has m xs

has_kept : (q : ℕ → Bool) (m : ℕ) (xs : List ℕ) → q m ≡ true → Has m xs → Has m (filter q xs)
has_kept q m [] t h = absurd h
has_kept q m (x ∷ xs) t h = go (q x) refl h (λ rest. has_kept q m xs t rest)
  where
    go : (b : Bool) → q x ≡ b → (x ≡ m) ⊎ Has m xs → (Has m xs → Has m (filter q xs)) → Has m (cond b (x ∷ filter q xs) (filter q xs))
    go true e (inl is) others = inl is
    go true e (inr rest) others = inr (others rest)
    go false e (inl is) others = absurd (let a : q x ≡ true = ap q is ∙ t in cc)
    go false e (inr rest) others = others rest

has_sync : (z : ℕ) (es : List Edge) → count_below z es < count_below (suc z) es → Has z (map (λ e. e.sync) es)
has_sync z [] h = absurd (omega (arith, h))
has_sync z (e ∷ es) h = go (cases_lt e.sync z) (cases_lt z e.sync) (λ k. has_sync z es k)
  where
    go : (e.sync < z) ⊎ (z ≤ e.sync) → (z < e.sync) ⊎ (e.sync ≤ z) → (count_below z es < count_below (suc z) es → Has z (map (λ e. e.sync) es)) →
        (e.sync ≡ z) ⊎ Has z (map (λ e. e.sync) es)
    go (inl p) other rest = inr (rest (let a : cond {A = ℕ} (nat_lt e.sync z) 1 0 ≡ cond (nat_lt e.sync (suc z)) 1 0 = grind (arith, nat_tests) in omega (arith, a, h)))
    go (inr p) (inl q) rest = inr (rest (let a : cond {A = ℕ} (nat_lt e.sync z) 1 0 ≡ cond (nat_lt e.sync (suc z)) 1 0 = grind (arith, nat_tests) in omega (arith, a, h)))
    go (inr p) (inr q) rest = inl (omega (arith, p, q))

fold_greatest : (m a : ℕ) (xs : List ℕ) → a ≤ m → AllByRecursion (λ x. x ≤ m) xs → (a ≡ m) ⊎ Has m xs → fold max a xs ≡ m
fold_greatest m a [] le h (inl is) = is
fold_greatest m a [] le h (inr none) = absurd none
fold_greatest m a (x ∷ xs) le h (inl is) = let b = h.0 in fold_greatest m (max a x) xs (omega (arith, le, b)) h.1 (inl (omega (arith, is, b)))
fold_greatest m a (x ∷ xs) le h (inr (inl is)) = let b = h.0 in fold_greatest m (max a x) xs (omega (arith, le, b)) h.1 (inl (omega (arith, is, le)))
fold_greatest m a (x ∷ xs) le h (inr (inr rest)) = let b = h.0 in fold_greatest m (max a x) xs (omega (arith, le, b)) h.1 (inr rest)

greatest_is : (m other : ℕ) (xs : List ℕ) → AllByRecursion (λ x. x ≤ m) xs → Has m xs → greatest_or other xs ≡ m
greatest_is m other [] h none = absurd none
greatest_is m other (x ∷ xs) h some = fold_greatest m x xs h.0 h.1 some

fold_least : (m a : ℕ) (xs : List ℕ) → m ≤ a → AllByRecursion (λ x. m ≤ x) xs → (a ≡ m) ⊎ Has m xs → fold min a xs ≡ m
fold_least m a [] le h (inl is) = is
fold_least m a [] le h (inr none) = absurd none
fold_least m a (x ∷ xs) le h (inl is) = let b = h.0 in fold_least m (min a x) xs (omega (arith, le, b)) h.1 (inl (omega (arith, is, b)))
fold_least m a (x ∷ xs) le h (inr (inl is)) = let b = h.0 in fold_least m (min a x) xs (omega (arith, le, b)) h.1 (inl (omega (arith, is, le)))
fold_least m a (x ∷ xs) le h (inr (inr rest)) = let b = h.0 in fold_least m (min a x) xs (omega (arith, le, b)) h.1 (inr rest)

least_is : (m other : ℕ) (xs : List ℕ) → AllByRecursion (λ x. m ≤ x) xs → Has m xs → least_or other xs ≡ m
least_is m other [] h none = absurd none
least_is m other (x ∷ xs) h some = fold_least m x xs h.0 h.1 some

module _ (es : List Edge) where
  -- each cut is a sync, and has edges below it
  cuts_count : AllByRecursion (λ x. (count_below x es < count_below (suc x) es) × (nat_lt 0 (count_below x es) ≡ true)) (cuts es)
  cuts_count = kept (λ x. count_below x es < count_below (suc x) es) (λ x. nat_lt 0 (count_below x es)) (map (λ e. e.sync) es)
      (mapped (λ e. e.sync) (λ x. count_below x es < count_below (suc x) es) es (each_counts es))

  has_cut : (z : ℕ) → 0 < count_below z es → count_below z es < count_below (suc z) es → Has z (cuts es)
  has_cut z some more = has_kept (λ x. nat_lt 0 (count_below x es)) z (map (λ e. e.sync) es) (grind (arith, nat_tests)) (has_sync z es more)

  module _ (batch p : ℕ) where
    -- at most a batch of edges
    pub slice_all : count_below p es ≤ batch → slice_end batch p es ≡ p
    slice_all few =
        let t : nat_le (count_below p es) batch ≡ true = grind (arith, nat_tests) in
        ap (λ b. cond b p (greatest_or (least_or p (cuts es)) (cuts_within batch es))) t

    module _ (many : batch < count_below p es) where
      slice_some : slice_end batch p es ≡ greatest_or (least_or p (cuts es)) (cuts_within batch es)
      slice_some =
          let t : nat_le (count_below p es) batch ≡ false = grind (arith, nat_tests) in
          ap (λ b. cond b p (greatest_or (least_or p (cuts es)) (cuts_within batch es))) t

      -- the greatest time below which at most a batch comes, where some does
      pub slice_at : (y : ℕ) → 0 < count_below y es → count_below y es ≤ batch → batch < count_below (suc y) es → slice_end batch p es ≡ y
      slice_at y some few more =
          slice_some ∙ greatest_is y (least_or p (cuts es)) (cuts_within batch es)
          (weaker (λ x. ((count_below x es < count_below (suc x) es) × (nat_lt 0 (count_below x es) ≡ true)) × (nat_le (count_below x es) batch ≡ true)) (λ x. x ≤ y)
          (λ x h. not_above x h.1) (cuts_within batch es)
          (kept (λ x. (count_below x es < count_below (suc x) es) × (nat_lt 0 (count_below x es) ≡ true)) (λ x. nat_le (count_below x es) batch) (cuts es) cuts_count))
          (has_kept (λ x. nat_le (count_below x es) batch) y (cuts es) (grind (arith, nat_tests)) (has_cut y some (omega (arith, few, more))))
        where
          not_above : (x : ℕ) → nat_le (count_below x es) batch ≡ true → x ≤ y
          not_above x t = go (cases_lt y x)
            where
              go : (y < x) ⊎ (x ≤ y) → x ≤ y
              go (inr le) = le
              go (inl less) =
                  let a : count_below x es ≤ batch = grind (arith, nat_tests) in
                  let b = counts_rise (suc y) x es less in absurd (omega (arith, a, b, more))

      -- the sync after the first one, or p
      module _ (f z : ℕ) (none : count_below f es ≡ 0) (more : batch < count_below (suc f) es) (low : suc f ≤ z) (same : count_below z es ≡ count_below (suc f) es) where
        cut_from : (x : ℕ) → (count_below x es < count_below (suc x) es) × (nat_lt 0 (count_below x es) ≡ true) → z ≤ x
        cut_from x h = go (cases_lt x z) (cases_lt f x)
          where
            go : (x < z) ⊎ (z ≤ x) → (f < x) ⊎ (x ≤ f) → z ≤ x
            go (inr le) other = le
            go (inl less) (inl above) =
                let a = counts_rise (suc x) z es less in let b = counts_rise (suc f) x es above in let c = h.0 in absurd (omega (arith, a, b, c, same))
            go (inl less) (inr le) =
                let a = counts_rise x f es le in let b : 0 < count_below x es = (let t = h.1 in grind (arith, nat_tests)) in absurd (omega (arith, a, b, none))

        none_within : cuts_within batch es ≡ []
        none_within = none_kept (λ x. nat_le (count_below x es) batch) (cuts es)
            (weaker (λ x. (count_below x es < count_below (suc x) es) × (nat_lt 0 (count_below x es) ≡ true)) (λ x. nat_le (count_below x es) batch ≡ false)
            (λ x h. let a = cut_from x h in let b = counts_rise z x es a in let n : batch < count_below x es = omega (arith, b, same, more) in grind (arith, nat_tests))
            (cuts es) cuts_count)

        slice_least : slice_end batch p es ≡ least_or p (cuts es)
        slice_least = slice_some ∙ ap (greatest_or (least_or p (cuts es))) none_within

        pub slice_second : count_below z es < count_below (suc z) es → slice_end batch p es ≡ z
        slice_second some = slice_least
            ∙ least_is z p (cuts es) (weaker (λ x. (count_below x es < count_below (suc x) es) × (nat_lt 0 (count_below x es) ≡ true)) (λ x. z ≤ x) cut_from (cuts es) cuts_count)
            (has_cut z (omega (arith, same, more)) some)

        pub slice_last : z ≡ p → failing (is_below p) es ≡ 0 → slice_end batch p es ≡ z
        slice_last is below = slice_least ∙ go (cuts es) (weaker (λ x. (count_below x es < count_below (suc x) es) × (nat_lt 0 (count_below x es) ≡ true)) (λ x. ⊥) never (cuts es) cuts_count)
          where
            go : (xs : List ℕ) → AllByRecursion (λ x. ⊥) xs → least_or p xs ≡ z
            go [] h = sym is
            go (x ∷ xs) h = absurd h.0

            never : (x : ℕ) → (count_below x es < count_below (suc x) es) × (nat_lt 0 (count_below x es) ≡ true) → ⊥
            never x h = let a = cut_from x h in let b = top_counts x (omega (arith, a, is)) in let c = h.0 in omega (arith, b, c)
              where
                top_counts : (x : ℕ) → p ≤ x → count_below (suc x) es ≡ count_below x es
                top_counts x le = all_counted es below
                  where
                    all_counted : (ys : List Edge) → failing (is_below p) ys ≡ 0 → count_below (suc x) ys ≡ count_below x ys
                    all_counted [] h = refl
                    all_counted (y ∷ ys) h = (
                        let t : y.sync < p = grind (arith, nat_tests) in
                        let others : failing (is_below p) ys ≡ 0 = grind (arith, nat_tests) in
                        let rest = all_counted ys others in
                        let a : cond {A = ℕ} (nat_lt y.sync (suc x)) 1 0 ≡ cond (nat_lt y.sync x) 1 0 = grind (arith, nat_tests) in
                        omega (arith, a, rest))
