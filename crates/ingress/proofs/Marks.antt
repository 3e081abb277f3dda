-- The streams at first, and streams that are raised one by one.
use Rattle.std.specs.Prelude.{◌≡◌, ℕ, zero, suc, ◌+◌, ◌<◌, ◌≤◌, ◌⊎◌, max, List, [], ◌∷◌, ◌++◌, length, get_or, replicate, refl}
use Rattle.std.proofs.Common.{sym, ◌∙◌, ap, arith, inl, inr}
use Rattle.std.proofs.lemmas.Bool.{cases_lt}
use Rattle.std.proofs.lemmas.List.{get_or_past, length-append, get_or_append_left, get_or_push}
use Rattle.std.proofs.lemmas.Bool.Decides.{nat_tests}
use Rattle.admission.specs.Admission.{raised}
use Rattle.ingress.specs.declared.watermarks.Watermark.{Watermark}
use Rattle.ingress.specs.Streams.{unraised, bound_in, mark_in, AreAbove}

unraised_at : (n s : ℕ) → get_or (replicate n unraised) s unraised ≡ unraised
unraised_at zero s = refl
unraised_at (suc n) zero = refl
unraised_at (suc n) (suc s) = unraised_at n s

pub no_bounds : (n : ℕ) (xs : List Watermark) → xs ≡ replicate n unraised → (s : ℕ) → bound_in xs s ≡ 0
no_bounds n xs e s = ap (λ l. bound_in l s) e ∙ ap (λ m. m.bound) (unraised_at n s)

pub no_marks : (n : ℕ) (xs : List Watermark) → xs ≡ replicate n unraised → (s : ℕ) → mark_in xs s ≡ 0
no_marks n xs e s = ap (λ l. mark_in l s) e ∙ ap (λ m. m.mark) (unraised_at n s)

so_many : (n : ℕ) → length (replicate n unraised) ≡ n
so_many zero = refl
so_many (suc n) = ap suc (so_many n)

pub streams_len : (n : ℕ) (xs : List Watermark) → xs ≡ replicate n unraised → length xs ≡ n
streams_len n xs e = ap length e ∙ so_many n

pub one_more : (n : ℕ) → replicate n unraised ++ unraised ∷ [] ≡ replicate (suc n) unraised
one_more zero = refl
one_more (suc n) = ap (λ l. unraised ∷ l) (one_more n)

-- the times up to the one that was raised, and those after it
pub raised_up_to : (old before after : ℕ → ℕ) (i t : ℕ) → ((s : ℕ) → after s ≡ raised i t before s) →
    ((s : ℕ) → s < i → before s ≡ max (old s) t) → ((s : ℕ) → i ≤ s → before s ≡ old s) →
    (s : ℕ) → s < suc i → after s ≡ max (old s) t
raised_up_to old before after i t is done left s low =
    let e = is s in let d = done s in let l = left s in grind (arith, nat_tests)

pub left_after : (old before after : ℕ → ℕ) (i t : ℕ) → ((s : ℕ) → after s ≡ raised i t before s) →
    ((s : ℕ) → i ≤ s → before s ≡ old s) → (s : ℕ) → suc i ≤ s → after s ≡ old s
left_after old before after i t is left s low =
    let e = is s in let l = left s in grind (arith, nat_tests)

-- times that are raised alike keep their order
pub above_raised : (s t : ℕ) (low high : ℕ → ℕ) (k : ℕ) → low k ≤ high k → raised s t low k ≤ raised s t high k
above_raised s t low high k le = grind (arith, nat_tests)

pub above_all : (t : ℕ) (old new : List Watermark) → length new ≡ length old →
    ((s : ℕ) → s < length old → bound_in new s ≡ max (bound_in old s) t) → ((s : ℕ) → s < length old → mark_in new s ≡ max (mark_in old s) t) →
    AreAbove old → AreAbove new
above_all t old new long bounds marks above s = go (cases_lt s (length old))
  where
    go : (s < length old) ⊎ (length old ≤ s) → mark_in new s ≤ bound_in new s
    go (inl less) = (let a = above s in let b = bounds s less in let m = marks s less in omega (arith, a, b, m))
    go (inr past) =
        let none = get_or_past new s unraised (omega (arith, long, past)) in
        let b = ap (λ w. w.bound) none in
        let m = ap (λ w. w.mark) none in
        omega (arith, b, m)

-- the bounds and the marks of the first i streams
pub record MarksTo (bounds marks : List ℕ) (i : ℕ) (xs : List Watermark) : Type 0 where
  pub long : length xs ≡ i
  pub of_bounds : (s : ℕ) → s < i → bound_in xs s ≡ get_or bounds s 0
  pub of_marks : (s : ℕ) → s < i → mark_in xs s ≡ get_or marks s 0

pub marks_none : (bounds marks : List ℕ) (xs : List Watermark) → xs ≡ [] → MarksTo bounds marks 0 xs
marks_none bounds marks xs none = record {
  long = ap length none;
  of_bounds = λ s low. absurd (omega (arith, low));
  of_marks = λ s low. absurd (omega (arith, low));
}

pub marks_next : (bounds marks : List ℕ) (i : ℕ) (xs after : List Watermark) (x : Watermark) → MarksTo bounds marks i xs → after ≡ xs ++ x ∷ [] → x.bound ≡ get_or bounds i 0 → x.mark ≡ get_or marks i 0 →
    MarksTo bounds marks (i + 1) after
marks_next bounds marks i xs after x m is bound mark = record {
  long = (let a = ap length is ∙ length-append xs (x ∷ []) in let l = m.long in omega (arith, a, l));
  of_bounds = λ s low. ap (λ ws. (get_or ws s unraised).bound) is ∙ go s low (cases_lt s i) (λ w. w.bound) (λ n. get_or bounds n 0) m.of_bounds bound;
  of_marks = λ s low. ap (λ ws. (get_or ws s unraised).mark) is ∙ go s low (cases_lt s i) (λ w. w.mark) (λ n. get_or marks n 0) m.of_marks mark;
}
  where
    go : (s : ℕ) → s < i + 1 → (s < i) ⊎ (i ≤ s) → (f : Watermark → ℕ) (g : ℕ → ℕ) → ((s : ℕ) → s < i → f (get_or xs s unraised) ≡ g s) → f x ≡ g i → f (get_or (xs ++ x ∷ []) s unraised) ≡ g s
    go s low (inl less) f g so_far own = ap f (get_or_append_left xs (x ∷ []) unraised s (let l = m.long in omega (arith, l, less))) ∙ so_far s less
    go s low (inr more) f g so_far own =
        let at : s ≡ i = omega (arith, low, more) in
        ap f (get_or_push xs x unraised s (let l = m.long in omega (arith, l, at))) ∙ own ∙ ap g (sym at)
