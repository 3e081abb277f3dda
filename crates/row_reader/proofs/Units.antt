-- The digits of a number with a point among them are the text of that many units.
use Rattle.std.proofs.Common.{◌≡◌, ◌<◌, ◌≤◌, ◌^◌, ◌+◌, ◌-◌, ◌/◌, ℕ, zero, suc, List, [], ◌∷◌, ◌++◌, length, take, drop, replicate, get_or, refl, sym, ◌∙◌, ap, subst, arith, Bool, true, false, inl, inr, append_assoc}
use Rattle.std.specs.Prelude.{decimal, nat_lt}
use Rattle.std.specs.Str.Parse.{AllDigits, digits_value, digits_value_after}
use Rattle.std.proofs.lemmas.Bool.{cases_lt}
use Rattle.std.proofs.lemmas.Bool.Decides.{Decides-ltb, nat_tests}
use Rattle.std.proofs.lemmas.List.{take-append-drop, length-append, length-replicate, length-take, length-drop, replicate_more}
use Rattle.std.proofs.lemmas.Fmt.{digits_decimal, digits_value-decimal, decimal-digits_value, decimal_digit, first_decimal}
use Rattle.row_reader.specs.NumberTexts.{fraction, units_text, pointed}
use Rattle.row_reader.proofs.Digits.{own, HasDigits, read_digits, value-append, AllDigits-split, AllDigits-append, zeros, value-zeros}

-- a number of two digits or more does not begin with a zero
two_digits : (n : ℕ) → n < 2 ^ 64 → 1 < length (decimal n) → 48 < get_or (decimal n) 0 0
two_digits n small long = elim (cases_lt n 10) [
  | inl low ↦ absurd (let e : length (decimal n) ≡ 1 = ap length (decimal_digit n low) in omega (arith, e, long))
  | inr high ↦ first_decimal n (omega (arith, high)) small
]

front_first : (xs ys : List ℕ) → 0 < length xs → get_or (xs ++ ys) 0 0 ≡ get_or xs 0 0
front_first [] ys h = absurd (omega arith)
front_first (x ∷ xs) ys h = refl

pub quotient-le : (n p : ℕ) → n / p ≤ n
quotient-le n zero = omega arith
quotient-le n (suc p) = omega arith

-- digits in two parts, the first of them some
cut : (n k : ℕ) (xs ys : List ℕ) → n < 2 ^ 64 → decimal n ≡ xs ++ ys → length ys ≡ suc k → 0 < length xs → xs ++ 46 ∷ ys ≡ units_text (suc k) n
cut n k xs ys small e long some =
    let all : AllDigits 10 (xs ++ ys) = subst (AllDigits 10) e (digits_decimal own n small) in
    let parts = AllDigits-split xs ys all in
    let value : digits_value_after 10 (digits_value 10 xs) ys ≡ n = sym (value-append xs ys 0) ∙ ap (digits_value 10) (sym e) ∙ digits_value-decimal own n small in
    let r : HasDigits (suc k) n (digits_value 10 xs) ys = subst (λ (j : ℕ). HasDigits j n (digits_value 10 xs) ys) long (subst (λ (m : ℕ). HasDigits (length ys) m (digits_value 10 xs) ys) value (read_digits ys (digits_value 10 xs) parts.1)) in
    let first : 48 < get_or xs 0 0 = subst (λ (b : ℕ). 48 < b) (ap (λ (l : List ℕ). get_or l 0 0) e ∙ front_first xs ys some) (two_digits n small (omega (arith, ap length e, length-append xs ys))) in
    let low : digits_value 10 xs < 2 ^ 64 = omega (arith, r.whole, quotient-le n (10 ^ suc k)) in
    let whole : decimal (digits_value 10 xs) ≡ xs = decimal-digits_value own xs parts.0 some (λ z. absurd (omega (arith, z, first))) low in
    let w : decimal (n / 10 ^ suc k) ≡ xs = ap decimal r.whole ∙ whole in
    let f : fraction (suc k) n ≡ ys = r.digits in
    ap (λ (l : List ℕ). l ++ 46 ∷ ys) (sym w) ∙ ap (λ (l : List ℕ). decimal (n / 10 ^ suc k) ++ 46 ∷ l) (sym f)

-- too few digits
padded : (n k : ℕ) → n < 2 ^ 64 → length (decimal n) ≤ suc k → 48 ∷ 46 ∷ (replicate (suc k - length (decimal n)) 48 ++ decimal n) ≡ units_text (suc k) n
padded n k small few =
    let m = suc k - length (decimal n) in
    let ds = replicate m 48 ++ decimal n in
    let all : AllDigits 10 ds = AllDigits-append (replicate m 48) (decimal n) (zeros m) (digits_decimal own n small) in
    let value : digits_value_after 10 0 ds ≡ n = value-append (replicate m 48) (decimal n) 0 ∙ ap (λ (w : ℕ). digits_value_after 10 w (decimal n)) (value-zeros m) ∙ digits_value-decimal own n small in
    let long : length ds ≡ suc k = omega (arith, length-append (replicate m 48) (decimal n), length-replicate {A = ℕ} m 48) in
    let r : HasDigits (suc k) n 0 ds = subst (λ (j : ℕ). HasDigits j n 0 ds) long (subst (λ (v : ℕ). HasDigits (length ds) v 0 ds) value (read_digits ds 0 all)) in
    let w : decimal (n / 10 ^ suc k) ≡ 48 ∷ [] = ap decimal r.whole ∙ decimal_digit 0 (omega arith) in
    let f : fraction (suc k) n ≡ ds = r.digits in
    ap (λ (l : List ℕ). 48 ∷ 46 ∷ l) (sym f) ∙ ap (λ (l : List ℕ). l ++ 46 ∷ fraction (suc k) n) (sym w)

at_most : (a b : ℕ) → nat_lt a b ≡ false → b ≤ a
at_most a b h = grind (arith, nat_tests)

by_length : (b : Bool) (n k : ℕ) → n < 2 ^ 64 → nat_lt (suc k) (length (decimal n)) ≡ b → pointed (suc k) (decimal n) ≡ units_text (suc k) n
by_length true n k small e =
    let many : suc k < length (decimal n) = (Decides-ltb _ _).0 e in
    let at = length (decimal n) - suc k in
    let both : take at (decimal n) ++ drop at (decimal n) ≡ decimal n = take-append-drop at (decimal n) in
    rw e (cut n k (take at (decimal n)) (drop at (decimal n)) small (sym both) (omega (arith, length-drop at (decimal n))) (omega (arith, length-take at (decimal n))))
by_length false n k small e = rw e (padded n k small (at_most (suc k) (length (decimal n)) e))

-- with a point before the last of its digits a number is the text of that many units
pub pointed_units : (k n : ℕ) → n < 2 ^ 64 → 0 < k → pointed k (decimal n) ≡ units_text k n
pointed_units zero n small some = absurd (omega arith)
pointed_units (suc k) n small some = by_length (nat_lt (suc k) (length (decimal n))) n k small refl

pub zeros_more : (xs ys zs : List ℕ) (i n : ℕ) → n ≤ i → ys ≡ xs ++ (48 ∷ 46 ∷ replicate (i - n) 48) → zs ≡ ys ++ 48 ∷ [] → zs ≡ xs ++ (48 ∷ 46 ∷ replicate (i + 1 - n) 48)
zeros_more xs ys zs i n h e f =
    let one : i + 1 - n ≡ i - n + 1 = omega arith in
    f ∙ ap (λ (l : List ℕ). l ++ 48 ∷ []) e ∙ append_assoc xs (48 ∷ 46 ∷ replicate (i - n) 48) (48 ∷ []) ∙ ap (λ (l : List ℕ). xs ++ (48 ∷ 46 ∷ l)) (replicate_more (i - n) 48) ∙ ap (λ (m : ℕ). xs ++ (48 ∷ 46 ∷ replicate m 48)) (sym one)
