-- An instant by the rows that it touches, gone over in row order.
use Rattle.std.specs.Prelude.{◌≡◌, ℕ, zero, suc, ◌+◌, ◌-◌, ◌<◌, ◌≤◌, Bool, true, false, ◌||◌, List, [], ◌∷◌, ◌++◌, take, drop, map, flat_map, replicate, refl}
use Rattle.std.specs.List.{AllByRecursion}
use Rattle.std.specs.List.Sorted.{IsStrictlySortedBy}
use Rattle.std.specs.Ordering.{eq_by_cmp}
use Rattle.std.specs.declared.cmp.Ordering.TheVariants.{Less}
use Rattle.std.proofs.Common.{inl, inr, sym, ◌∙◌, ap, subst, arith, add-zero}
use Rattle.std.proofs.lemmas.Bool.{or_cases}
use Rattle.std.proofs.lemmas.List.{append-nil}
use Rattle.tw_rows.specs.Bag.{SameBag}
use Rattle.tw_rows.specs.Rows.{Row, row_cmp}
use Rattle.plan_model.specs.Opens.{before, rise, fall, open_before}
use Rattle.plan_model.specs.Changes.{Started, Ended, in_row_order, row_ends, row_starts, changes_at}
use Rattle.plan_model.proofs.InOrder.{member, Rises, same_row, or_left, or_right, member-in_row_order, Rises-in_row_order, flat_map_within}
use Rattle.plan_model.proofs.Counting.{open_step, no_rise, no_fall, no_row_ends, no_row_starts}
use Rattle.plan_model.proofs.Steady.{often_same, flat_map_same}
use Rattle.egress.specs.Instants.{end_lines, start_lines, instant_lines, open_after, AreMoves, AreOpen, AreTouched}

pub first_below : (x : Row) (xs : List Row) → AllByRecursion (λ y. row_cmp x y ≡ Less) xs → (q : Row) → member q xs ≡ true → row_cmp x q ≡ Less
first_below x [] h q m = absurd (cc)
first_below x (y ∷ ys) h q m = elim (or_cases (eq_by_cmp row_cmp q y) (member q ys) m) [
  | inl t ↦ ap (row_cmp x) (same_row q y t) ∙ h.0
  | inr t ↦ first_below x ys h.1 q t
]

rises : (xs : List Row) → IsStrictlySortedBy row_cmp xs → Rises xs
unfolding IsStrictlySortedBy
rises [] h = tt
rises (x ∷ xs) h = (first_below x xs h.0, rises xs h.1)

member_append : (q : Row) (xs ys : List Row) → member q (xs ++ ys) ≡ (member q xs || member q ys)
member_append q [] ys = refl
member_append q (x ∷ xs) ys = ap (λ b. eq_by_cmp row_cmp q x || b) (member_append q xs ys) ∙ or_assoc (eq_by_cmp row_cmp q x) (member q xs) (member q ys)
  where
    or_assoc : (a b c : Bool) → (a || (b || c)) ≡ ((a || b) || c)
    or_assoc true b c = refl
    or_assoc false b c = refl

-- rows gone over in order may be any rows that rise, if each other row gives nothing
module _ {X : Type 0} (f : Row → List X) (rows touched : List Row) (up : Rises touched)
    (outside : (q : Row) → member q rows ≡ false → f q ≡ []) (untouched : (q : Row) → member q touched ≡ false → f q ≡ []) where
  abbrev all : List Row
  all = in_row_order (rows ++ touched)

  in_all : (q : Row) → member q all ≡ (member q rows || member q touched)
  in_all q = member-in_row_order q (rows ++ touched) ∙ member_append q rows touched

  pub over_touched : flat_map f (in_row_order rows) ≡ flat_map f touched
  over_touched =
      flat_map_within f all (in_row_order rows) (Rises-in_row_order (rows ++ touched)) (Rises-in_row_order rows) (record {
        within = λ q m. in_all q ∙ or_left (member q rows) (member q touched) (sym (member-in_row_order q rows) ∙ m);
        none = λ q m n. outside q (sym (member-in_row_order q rows) ∙ n);
      })
      ∙ sym (flat_map_within f all touched (Rises-in_row_order (rows ++ touched)) up (record {
        within = λ q m. in_all q ∙ or_right (member q rows) (member q touched) m;
        none = λ q m n. untouched q n;
      }))

module _ (rows : ℕ → List Row) (t : ℕ) (ends starts : Row → ℕ) (moves : AreMoves rows t ends starts) where
  fall_is : (r : Row) → fall rows r t ≡ ends r - starts r
  fall_is r = let a = moves r in omega (arith, a)

  rise_is : (r : Row) → rise rows r t ≡ starts r - ends r
  rise_is r = let a = moves r in omega (arith, a)

  module _ (since : Row → List ℕ) (opened : AreOpen rows t since) where
    row_ends_are : (r : Row) → row_ends rows t r ≡ end_lines ends starts t since r
    row_ends_are r =
        ap (λ n. map (λ s. Ended t s r) (take n (open_before rows r t))) (fall_is r)
        ∙ ap (λ l. map (λ s. Ended t s r) (take (ends r - starts r) l)) (sym (opened r))

    row_starts_are : (r : Row) → row_starts rows t r ≡ start_lines ends starts t r
    row_starts_are r = ap (λ n. replicate n (Started t r)) (rise_is r)

    pub lines_are : (touched : List Row) → AreTouched ends starts touched → changes_at rows t ≡ instant_lines ends starts t since touched
    unfolding changes_at instant_lines
    lines_are touched h =
        let up = rises touched h.order in
        ap (λ l. l ++ flat_map (row_starts rows t) (in_row_order (rows t)))
        (over_touched (row_ends rows t) (before rows t) touched up
        (λ q m. no_row_ends rows q t (no_fall rows q t m))
        (λ q m. no_row_ends rows q t (let a = h.others q m in let b = fall_is q in omega (arith, a, b)))
        ∙ flat_map_same (row_ends rows t) (end_lines ends starts t since) touched row_ends_are)
        ∙ ap (λ l. flat_map (end_lines ends starts t since) touched ++ l)
        (over_touched (row_starts rows t) (rows t) touched up
        (λ q m. no_row_starts rows q t (no_rise rows q t m))
        (λ q m. no_row_starts rows q t (let a = h.others q m in let b = rise_is q in omega (arith, a, b)))
        ∙ flat_map_same (row_starts rows t) (start_lines ends starts t) touched row_starts_are)

    pub open_then : AreOpen rows (suc t) (open_after ends starts t since)
    open_then r = sym (
        open_step rows r t
        ∙ ap (λ n. drop n (open_before rows r t) ++ replicate (rise rows r t) t) (fall_is r)
        ∙ ap (λ n. drop (ends r - starts r) (open_before rows r t) ++ replicate n t) (rise_is r)
        ∙ ap (λ l. drop (ends r - starts r) l ++ replicate (starts r - ends r) t) (sym (opened r)))

-- an instant at which no row changes leaves what is since
still : (rows : ℕ → List Row) (r : Row) (t : ℕ) → SameBag (before rows t) (rows t) → open_before rows r (suc t) ≡ open_before rows r t
still rows r t h =
    let same = often_same r (before rows t) (rows t) h in
    let down : fall rows r t ≡ 0 = omega (arith, same) in
    let up : rise rows r t ≡ 0 = omega (arith, same) in
    open_step rows r t
    ∙ ap (λ n. drop n (open_before rows r t) ++ replicate (rise rows r t) t) down
    ∙ ap (λ n. open_before rows r t ++ replicate n t) up
    ∙ append-nil (open_before rows r t)

pub quiet_open : (rows : ℕ → List Row) (a n : ℕ) (since : Row → List ℕ) →
    ((t : ℕ) → a ≤ t → t < a + n → SameBag (before rows t) (rows t)) → AreOpen rows a since → AreOpen rows (a + n) since
quiet_open rows a zero since h o = subst (λ t. AreOpen rows t since) (sym (add-zero a)) o
quiet_open rows a (suc n) since h o =
    let e : suc a + n ≡ a + suc n = omega arith in
    subst (λ t. AreOpen rows t since) e
    (quiet_open rows (suc a) n since (λ t low high. h t (omega (arith, low)) (omega (arith, high)))
    (λ r. o r ∙ sym (still rows r a (h a (omega arith) (omega arith)))))
