-- The first edges of a history.
use Rattle.std.specs.Prelude.{◌≡◌, ℕ, ◌+◌, ◌*◌, ◌≤◌, ◌⊎◌, Bool, true, false, cond, List, [], ◌∷◌, ◌++◌, filter, refl}
use Rattle.std.proofs.Common.{◌∙◌, sym, ap, arith, inl, inr}
use Rattle.std.proofs.lemmas.Bool.Decides.{nat_tests}
use Rattle.tw_rows.specs.declared.cells.Datum.{Datum}
use Rattle.tw_rows.specs.declared.edge.Edge.{Edge}
use Rattle.tw_rows.proofs.Bags.{total-append}
use Rattle.edge_history.specs.Order.{many, rank, Rises, is_real, is_below, is_from, ends_it, starts_it, IsHistory}
use Rattle.edge_history.proofs.Sums.{failing-parts}

pub rises_first : (r : ℕ) (h new : List Edge) → Rises r (h ++ new) → Rises r h
rises_first r [] new k = tt
rises_first r (x ∷ h) new k = (k.0, rises_first (rank x) h new k.1)

late_start : (cells : List Datum) (start r : ℕ) (x : Edge) → 2 * start + 2 ≤ r → r ≤ rank x →
    cond {A = ℕ} (starts_it cells start x) 1 0 ≡ 0
late_start cells start r x low high = grind (arith, nat_tests)

-- past a start no edge starts there
no_start : (cells : List Datum) (start r : ℕ) (xs : List Edge) → 2 * start + 2 ≤ r → Rises r xs →
    many (starts_it cells start) xs ≡ 0
no_start cells start r [] low k = refl
no_start cells start r (x ∷ xs) low k =
    let a = late_start cells start r x low k.0 in
    let b = no_start cells start (rank x) xs (omega (arith, low, k.0)) k.1 in
    omega (arith, a, b)

no_later : (cells : List Datum) (start r : ℕ) (h new : List Edge) → 2 * start + 2 ≤ r → Rises r (h ++ new) →
    many (starts_it cells start) new ≡ 0
no_later cells start r h new low k =
    let a = no_start cells start r (h ++ new) low k in
    let b = total-append (λ x. cond {A = ℕ} (starts_it cells start x) 1 0) h new in
    omega (arith, a, b)

end_is_late : (cells : List Datum) (start : ℕ) (x : Edge) → ends_it cells start x ≡ true → 2 * start + 2 ≤ rank x
end_is_late cells start x k = grind (arith, nat_tests)

-- where an edge of the first ends an event, none of the others starts it
ends_or_none : (cells : List Datum) (start r : ℕ) (h new : List Edge) → Rises r (h ++ new) →
    (many (ends_it cells start) h ≡ 0) ⊎ (many (starts_it cells start) new ≡ 0)
ends_or_none cells start r [] new k = inl refl
ends_or_none cells start r (x ∷ h) new k =
    pick (ends_it cells start x) refl (ends_or_none cells start (rank x) h new k.1)
  where
    pick : (b : Bool) → ends_it cells start x ≡ b →
        (many (ends_it cells start) h ≡ 0) ⊎ (many (starts_it cells start) new ≡ 0) →
        (many (ends_it cells start) (x ∷ h) ≡ 0) ⊎ (many (starts_it cells start) new ≡ 0)
    pick true e rest = inr (no_later cells start (rank x) h new (end_is_late cells start x e) k.1)
    pick false e (inl n) = inl (let z = ap (λ b. cond {A = ℕ} b 1 0) e in omega (arith, z, n))
    pick false e (inr n) = inr n

pub history_first : (h new : List Edge) → IsHistory (h ++ new) → IsHistory h
history_first h new k = record {
  order = rises_first 0 h new k.order;
  real = (failing-parts is_real h new k.real).0;
  paired = λ cells start.
      let p = k.paired cells start in
      let a = total-append (λ x. cond {A = ℕ} (ends_it cells start x) 1 0) h new in
      let b = total-append (λ x. cond {A = ℕ} (starts_it cells start x) 1 0) h new in
      pick cells start p a b (ends_or_none cells start 0 h new k.order);
}
  where
    pick : (cells : List Datum) (start : ℕ) →
        many (ends_it cells start) (h ++ new) ≤ many (starts_it cells start) (h ++ new) →
        many (ends_it cells start) (h ++ new) ≡ many (ends_it cells start) h + many (ends_it cells start) new →
        many (starts_it cells start) (h ++ new) ≡ many (starts_it cells start) h + many (starts_it cells start) new →
        (many (ends_it cells start) h ≡ 0) ⊎ (many (starts_it cells start) new ≡ 0) →
        many (ends_it cells start) h ≤ many (starts_it cells start) h
    pick cells start p a b (inl n) = omega (arith, p, a, b, n)
    pick cells start p a b (inr n) = omega (arith, p, a, b, n)

-- the edges below a time stand before the others
tests_differ : (t : ℕ) (x : Edge) → is_below t x ≡ false → is_from t x ≡ true
tests_differ t x k = grind (arith, nat_tests)

tests_apart : (t : ℕ) (x : Edge) → is_below t x ≡ true → is_from t x ≡ false
tests_apart t x k = grind (arith, nat_tests)

later_rank : (t : ℕ) (x y : Edge) → is_below t x ≡ false → rank x ≤ rank y → is_below t y ≡ false
later_rank t x y k low = grind (arith, nat_tests)

none_below : (t : ℕ) (x : Edge) (xs : List Edge) → is_below t x ≡ false → Rises (rank x) xs →
    (filter (is_below t) xs ≡ []) × (filter (is_from t) xs ≡ xs)
none_below t x [] k r = (refl, refl)
none_below t x (y ∷ ys) k r =
    let l = later_rank t x y k r.0 in
    let rest = none_below t y ys l r.1 in (
      ap (λ b. cond b (y ∷ filter (is_below t) ys) (filter (is_below t) ys)) l ∙ rest.0,
      ap (λ b. cond b (y ∷ filter (is_from t) ys) (filter (is_from t) ys)) (tests_differ t y l)
          ∙ ap (λ l. y ∷ l) rest.1,
    )

pub split_at_time : (t r : ℕ) (h : List Edge) → Rises r h → h ≡ filter (is_below t) h ++ filter (is_from t) h
split_at_time t r [] k = refl
split_at_time t r (x ∷ xs) k = pick (is_below t x) refl (split_at_time t (rank x) xs k.1)
  where
    pick : (b : Bool) → is_below t x ≡ b → xs ≡ filter (is_below t) xs ++ filter (is_from t) xs →
        x ∷ xs ≡ cond b (x ∷ filter (is_below t) xs) (filter (is_below t) xs)
        ++ cond (is_from t x) (x ∷ filter (is_from t) xs) (filter (is_from t) xs)
    pick true e rest =
        ap (λ l. x ∷ l) rest
        ∙ ap (λ b. (x ∷ filter (is_below t) xs) ++ cond b (x ∷ filter (is_from t) xs) (filter (is_from t) xs))
        (sym (tests_apart t x e))
    pick false e rest =
        let n = none_below t x xs e k.1 in
        ap (λ l. x ∷ l) (sym n.1)
        ∙ (ap (λ l. l ++ x ∷ filter (is_from t) xs) (sym n.0)
        ∙ ap (λ b. filter (is_below t) xs ++ cond b (x ∷ filter (is_from t) xs) (filter (is_from t) xs))
        (sym (tests_differ t x e)))
