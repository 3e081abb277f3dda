-- The order of the lines, and that an end line names an earlier start line.
use Rattle.std.specs.Prelude.{◌≡◌, ℕ, zero, suc, ◌<◌, ◌≤◌, true, false, List, [], ◌∷◌, replicate, flat_map, IsSorted, refl}
use Rattle.std.specs.Ordering.{is_lt, nat_cmp, ordering_then, ordering_reverse}
use Rattle.std.specs.Cmp.{tied_itself}
use Rattle.std.specs.declared.cmp.Ordering.TheVariants.{Less, Equal, Greater}
use Rattle.std.proofs.Common.{sym, ◌∙◌, ap, arith}
use Rattle.std.proofs.lemmas.Bool.Decides.{nat_tests}
use Rattle.tw_rows.specs.Rows.{Row, row_cmp}
use Rattle.tw_rows.specs.RowOrder.{row_cmp_total}
use Rattle.plan_model.specs.Opens.{before, rise, fall, starts_before, ends_before, open_before, named_at}
use Rattle.plan_model.specs.Changes.{Line, Started, Ended, in_row_order, row_ends, row_starts, changes_at, changes}
use Rattle.plan_model.specs.ChangeWords.{time_of, row_of, kind_of, line_cmp}
use Rattle.plan_model.proofs.InOrder.{member, Rises, member_first, member_later, Rises-in_row_order}
use Rattle.plan_model.proofs.Each.{Each, Pairs, each_append, each_replicate, each_take, each_drop, each_more, each_map, each_flat_map, each_all, pairs_append, pairs_within, sorted_from_pairs}

-- the later line isn't below the earlier one
abbrev pub Follows : Line → Line → Type 0
Follows x y = is_lt (line_cmp y x) ≡ false

nat_greater : (a b : ℕ) → a < b → nat_cmp b a ≡ Greater
nat_greater a b h = grind (arith, nat_tests)

nat_tied : (a b : ℕ) → a ≡ b → nat_cmp b a ≡ Equal
nat_tied a b h = grind (arith, nat_tests)

later_follows : (x y : Line) → time_of x < time_of y → Follows x y
later_follows x y h = ap (λ o. is_lt (ordering_then o (ordering_then (nat_cmp (kind_of y) (kind_of x)) (row_cmp (row_of y) (row_of x))))) (nat_greater (time_of x) (time_of y) h)

kind_follows : (x y : Line) → time_of x ≡ time_of y → kind_of x < kind_of y → Follows x y
kind_follows x y e h =
    ap (λ o. is_lt (ordering_then o (ordering_then (nat_cmp (kind_of y) (kind_of x)) (row_cmp (row_of y) (row_of x))))) (nat_tied (time_of x) (time_of y) e)
    ∙ ap (λ o. is_lt (ordering_then o (row_cmp (row_of y) (row_of x)))) (nat_greater (kind_of x) (kind_of y) h)

row_follows : (x y : Line) → time_of x ≡ time_of y → kind_of x ≡ kind_of y → is_lt (row_cmp (row_of y) (row_of x)) ≡ false → Follows x y
row_follows x y e f h =
    ap (λ o. is_lt (ordering_then o (ordering_then (nat_cmp (kind_of y) (kind_of x)) (row_cmp (row_of y) (row_of x))))) (nat_tied (time_of x) (time_of y) e)
    ∙ ap (λ o. is_lt (ordering_then o (row_cmp (row_of y) (row_of x)))) (nat_tied (kind_of x) (kind_of y) f)
    ∙ h

-- a line of an instant, of a kind, and of a row
abbrev At : ℕ → ℕ → Line → Type 0
At t k line = (time_of line ≡ t) × (kind_of line ≡ k)

abbrev Of : ℕ → ℕ → Row → Line → Type 0
Of t k r line = (time_of line ≡ t) × (kind_of line ≡ k) × (row_of line ≡ r)

ends_of : (rows : ℕ → List Row) (t : ℕ) (r : Row) → Each (Of t 0 r) (row_ends rows t r)
ends_of rows t r = each_map (Of t 0 r) (λ s. Ended t s r) (named_at rows r t) (each_all _ (named_at rows r t) (λ s. (refl, refl, refl)))

starts_of : (rows : ℕ → List Row) (t : ℕ) (r : Row) → Each (Of t 1 r) (row_starts rows t r)
starts_of rows t r = each_replicate (Of t 1 r) (rise rows r t) (Started t r) (refl, refl, refl)

pub ends_at_time : (rows : ℕ → List Row) (t : ℕ) (r : Row) → Each (λ l. time_of l ≡ t) (row_ends rows t r)
ends_at_time rows t r = each_more (Of t 0 r) _ (row_ends rows t r) (λ l h. h.0) (ends_of rows t r)

pub starts_at_time : (rows : ℕ → List Row) (t : ℕ) (r : Row) → Each (λ l. time_of l ≡ t) (row_starts rows t r)
starts_at_time rows t r = each_more (Of t 1 r) _ (row_starts rows t r) (λ l h. h.0) (starts_of rows t r)

equal_follows : (r : Row) → is_lt (row_cmp r r) ≡ false
equal_follows r = ap is_lt (tied_itself row_cmp_total r)

greater_follows : (x y : Row) → row_cmp x y ≡ Less → is_lt (row_cmp y x) ≡ false
greater_follows x y h = ap is_lt (row_cmp_total.antisymm y x ∙ ap ordering_reverse h)

module _ (f : Row → List Line) (t k : ℕ) (of : (r : Row) → Each (Of t k r) (f r)) where
  at_all : (rows : List Row) → Each (At t k) (flat_map f rows)
  at_all rows = each_flat_map (At t k) f rows (each_all _ rows (λ r. each_more (Of t k r) (At t k) (f r) (λ l h. (h.0, h.1)) (of r)))

  -- lines of rows above a row
  above : (x : Row) (rows : List Row) → ((q : Row) → member q rows ≡ true → row_cmp x q ≡ Less) → Each (λ l. (time_of l ≡ t) × (kind_of l ≡ k) × (row_cmp x (row_of l) ≡ Less)) (flat_map f rows)
  above x [] h = tt
  above x (y ∷ rows) h = each_append _ (f y) (flat_map f rows)
      (each_more (Of t k y) _ (f y) (λ l o. (o.0, o.1, ap (row_cmp x) o.2 ∙ h y (member_first y rows))) (of y))
      (above x rows (λ q m. h q (member_later q y rows m)))

  one_row : (r : Row) → Pairs Follows (f r)
  one_row r = pairs_within Follows (Of t k r) (f r)
      (λ x y h i. row_follows x y (h.0 ∙ sym i.0) (h.1 ∙ sym i.1) (ap (λ z. is_lt (row_cmp z (row_of x))) (i.2 ∙ sym h.2) ∙ equal_follows (row_of x)))
      (of r)

  in_order : (rows : List Row) → Rises rows → Pairs Follows (flat_map f rows)
  in_order [] h = tt
  in_order (x ∷ rows) h = pairs_append Follows (f x) (flat_map f rows) (one_row x) (in_order rows h.1)
      (each_more (Of t k x) _ (f x)
      (λ l o. each_more _ (Follows l) (flat_map f rows)
      (λ m i. row_follows l m (o.0 ∙ sym i.0) (o.1 ∙ sym i.1) (ap (λ z. is_lt (row_cmp (row_of m) z)) o.2 ∙ greater_follows x (row_of m) i.2))
      (above x rows h.0))
      (of x))

ends_first : (t : ℕ) (x y : Line) → At t 0 x → At t 1 y → Follows x y
ends_first t x y h i = kind_follows x y (h.0 ∙ sym i.0) (let a = h.1 in let b = i.1 in omega (arith, a, b))

pub instant_in_order : (rows : ℕ → List Row) (t : ℕ) → Pairs Follows (changes_at rows t)
unfolding changes_at
instant_in_order rows t = pairs_append Follows (flat_map (row_ends rows t) (in_row_order (before rows t))) (flat_map (row_starts rows t) (in_row_order (rows t)))
    (in_order (row_ends rows t) t 0 (ends_of rows t) (in_row_order (before rows t)) (Rises-in_row_order (before rows t)))
    (in_order (row_starts rows t) t 1 (starts_of rows t) (in_row_order (rows t)) (Rises-in_row_order (rows t)))
    (each_more (At t 0) _ (flat_map (row_ends rows t) (in_row_order (before rows t)))
    (λ x h. each_more (At t 1) (Follows x) (flat_map (row_starts rows t) (in_row_order (rows t))) (λ y i. ends_first t x y h i) (at_all (row_starts rows t) t 1 (starts_of rows t) (in_row_order (rows t))))
    (at_all (row_ends rows t) t 0 (ends_of rows t) (in_row_order (before rows t))))

pub instant_times : (rows : ℕ → List Row) (t : ℕ) → Each (λ l. time_of l ≡ t) (changes_at rows t)
unfolding changes_at
instant_times rows t = each_append (λ l. time_of l ≡ t) (flat_map (row_ends rows t) (in_row_order (before rows t))) (flat_map (row_starts rows t) (in_row_order (rows t)))
    (each_more (At t 0) _ _ (λ l h. h.0) (at_all (row_ends rows t) t 0 (ends_of rows t) (in_row_order (before rows t))))
    (each_more (At t 1) _ _ (λ l h. h.0) (at_all (row_starts rows t) t 1 (starts_of rows t) (in_row_order (rows t))))

pub times_from : (rows : ℕ → List Row) (a n : ℕ) → Each (λ l. a ≤ time_of l) (changes rows a n)
unfolding changes
times_from rows a zero = tt
times_from rows a (suc n) = each_append (λ l. a ≤ time_of l) (changes_at rows a) (changes rows (suc a) n)
    (each_more (λ l. time_of l ≡ a) _ (changes_at rows a) (λ l h. omega (arith, h)) (instant_times rows a))
    (each_more (λ l. suc a ≤ time_of l) _ (changes rows (suc a) n) (λ l h. omega (arith, h)) (times_from rows (suc a) n))

pub all_in_order : (rows : ℕ → List Row) (a n : ℕ) → Pairs Follows (changes rows a n)
unfolding changes
all_in_order rows a zero = tt
all_in_order rows a (suc n) = pairs_append Follows (changes_at rows a) (changes rows (suc a) n)
    (instant_in_order rows a)
    (all_in_order rows (suc a) n)
    (each_more (λ l. time_of l ≡ a) _ (changes_at rows a)
    (λ x h. each_more (λ l. suc a ≤ time_of l) (Follows x) (changes rows (suc a) n) (λ y i. later_follows x y (omega (arith, h, i))) (times_from rows (suc a) n))
    (instant_times rows a))

-- the lines are in order
pub lines_sorted : (rows : ℕ → List Row) (a n : ℕ) → IsSorted line_cmp (changes rows a n)
lines_sorted rows a n = sorted_from_pairs (λ x y. is_lt (line_cmp x y)) (changes rows a n) (all_in_order rows a n)

starts_are_before : (rows : ℕ → List Row) (r : Row) (t : ℕ) → Each (λ s. s < t) (starts_before rows r t)
starts_are_before rows r zero = tt
starts_are_before rows r (suc t) = each_append (λ s. s < suc t) (starts_before rows r t) (replicate (rise rows r t) t)
    (each_more (λ s. s < t) (λ s. s < suc t) (starts_before rows r t) (λ s h. omega (arith, h)) (starts_are_before rows r t))
    (each_replicate (λ s. s < suc t) (rise rows r t) t (omega arith))

-- an end line names a time before its own
abbrev pub NamesBefore : Line → Type 0
NamesBefore (Started t r) = Unit {0}
NamesBefore (Ended t s r) = s < t

pub ends_name_before : (rows : ℕ → List Row) (t : ℕ) → Each NamesBefore (changes_at rows t)
unfolding changes_at
ends_name_before rows t = each_append NamesBefore (flat_map (row_ends rows t) (in_row_order (before rows t))) (flat_map (row_starts rows t) (in_row_order (rows t)))
    (each_flat_map NamesBefore (row_ends rows t) (in_row_order (before rows t)) (each_all _ (in_row_order (before rows t)) (λ r.
    each_map NamesBefore (λ s. Ended t s r) (named_at rows r t) (each_take _ (fall rows r t) (open_before rows r t) (each_drop _ (ends_before rows r t) (starts_before rows r t) (starts_are_before rows r t))))))
    (each_flat_map NamesBefore (row_starts rows t) (in_row_order (rows t)) (each_all _ (in_row_order (rows t)) (λ r. each_replicate NamesBefore (rise rows r t) (Started t r) tt)))
