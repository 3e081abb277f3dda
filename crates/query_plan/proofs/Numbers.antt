-- The numbers of choices.
use Rattle.std.specs.Prelude.{◌≡◌, ℕ, suc, ◌+◌, ◌*◌, ◌/◌, ◌%◌, ◌<◌, ◌≤◌, List, [], ◌∷◌, refl}
use Rattle.std.specs.List.{AllZip}
use Rattle.std.proofs.Common.{◌∙◌, ap, subst, arith, mul_comm, suc-mul, mul-le-mul_right, div-lt_iff_lt-mul, div-add-mod'}
use Rattle.std.proofs.lemmas.Nat.{mod-mul-add, div-mul-add}
use Rattle.query_plan.specs.Choices.{choice_count, choice, number_of}
use Rattle.query_plan.proofs.Found.{some_each}

-- a number and one more column
below : (n count width column : ℕ) → n < count → column < width → n * width + column < width * count
below n count width column low small =
    let a : suc n * width ≤ count * width = mul-le-mul_right width low in
    let b = suc-mul n width in
    let e = mul_comm width count in
    omega (arith, a, b, e, small)

pub each_choice : (widths columns : List ℕ) → AllZip (λ column width. column < width) columns widths →
    (number_of widths columns < choice_count widths) × (choice widths (number_of widths columns) ≡ columns)
each_choice [] [] h = (omega arith, refl)
each_choice [] (column ∷ columns) h = elim h [ ]
each_choice (width ∷ widths) [] h = elim h [ ]
each_choice (width ∷ widths) (column ∷ columns) h =
    let rest = each_choice widths columns h.1 in
    let n = number_of widths columns in (
      below n (choice_count widths) width column rest.0 h.0,
      ap (λ c. c ∷ choice widths ((n * width + column) / width)) (mod-mul-add n width column h.0)
          ∙ (ap (λ k. column ∷ choice widths k) (div-mul-add n width column h.0) ∙ ap (λ l. column ∷ l) rest.1),
    )

pub each_number : (widths : List ℕ) (number : ℕ) → number < choice_count widths →
    number_of widths (choice widths number) ≡ number
each_number [] number low = omega (arith, low)
each_number (width ∷ widths) number low =
    let some = some_each width (choice_count widths) (omega (arith, low)) in
    let less : number / width < choice_count widths =
    (div-lt_iff_lt-mul some.0).1 (subst (λ m. number < m) (mul_comm width (choice_count widths)) low) in
    ap (λ k. k * width + number % width) (each_number widths (number / width) less) ∙ div-add-mod' number width
