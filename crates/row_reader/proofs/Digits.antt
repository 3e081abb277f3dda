-- Digits: the value of a text of digits, and the digits of a number.
use Rattle.std.proofs.Common.{◌≡◌, ◌<◌, ◌^◌, ◌+◌, ◌*◌, ◌/◌, ◌%◌, ℕ, zero, suc, List, [], ◌∷◌, ◌++◌, length, replicate, refl, sym, ◌∙◌, ap, arith}
use Rattle.std.specs.Char.{digit_value}
use Rattle.std.specs.Str.Parse.{AllDigits, digits_value, digits_value_after}
use Rattle.std.proofs.Math.Nat.{div-div-eq-div-mul}
use Rattle.std.proofs.lemmas.Str.{digit_value_digit}
use Rattle.std.proofs.lemmas.Str.Parse.{digit_from_value, IsNumeralModel, numerals_by_value, tells_digits}
use native.Mathlib.Nat.{pow-suc}
use Rattle.row_reader.specs.NumberTexts.{fraction}

pub own : IsNumeralModel (AllDigits 10) (digits_value 10)
own = numerals_by_value (AllDigits 10) tells_digits

-- a digit is the byte of its value
pub digit_is : (d : ℕ) → digit_value d < 10 → 48 + digit_value d ≡ d
digit_is d h = let e = digit_value_digit d (digit_from_value d h) in omega (arith, e)

pub value_is : (x : ℕ) → x < 10 → digit_value (48 + x) ≡ x
value_is x h = let e = digit_value_digit (48 + x) (omega arith, omega arith) in omega (arith, e)

-- the number has this whole part, and these digits after it
pub record HasDigits (k n w : ℕ) (ds : List ℕ) : Type 0 where
  pub whole : n / 10 ^ k ≡ w
  pub digits : fraction k n ≡ ds

tenth : (w d : ℕ) → d < 10 → (w * 10 + d) / 10 ≡ w
tenth w d h = omega arith

last : (w d : ℕ) → d < 10 → (w * 10 + d) % 10 ≡ d
last w d h = omega arith

whole_of : (n k w d : ℕ) → d < 10 → n / 10 ^ k ≡ w * 10 + d → n / 10 ^ suc k ≡ w
whole_of n k w d h e = ap (λ (p : ℕ). n / p) (pow-suc 10 k) ∙ sym (div-div-eq-div-mul n (10 ^ k) 10) ∙ ap (λ (q : ℕ). q / 10) e ∙ tenth w d h

pub read_digits : (ds : List ℕ) (w : ℕ) → AllDigits 10 ds → HasDigits (length ds) (digits_value_after 10 w ds) w ds
unfolding fraction
read_digits [] w h = record { whole = omega arith; digits = refl }
read_digits (d ∷ ds) w h =
    let r = read_digits ds (w * 10 + digit_value d) h.1 in
    let n = digits_value_after 10 (w * 10 + digit_value d) ds in
    let here : 48 + n / 10 ^ length ds % 10 ≡ d = ap (λ (q : ℕ). 48 + q % 10) r.whole ∙ ap (λ (x : ℕ). 48 + x) (last w (digit_value d) h.0) ∙ digit_is d h.0 in
    let later : fraction (length ds) n ≡ ds = r.digits in
    record {
      whole = whole_of n (length ds) w (digit_value d) h.0 r.whole;
      digits = ap (λ (x : ℕ). x ∷ fraction (length ds) n) here ∙ ap (λ (xs : List ℕ). d ∷ xs) later;
    }

-- the last k digits are k digits, and with the whole part they are the number
pub length-fraction : (k n : ℕ) → length (fraction k n) ≡ k
unfolding fraction
length-fraction zero n = refl
length-fraction (suc k) n = ap suc (length-fraction k n)

low : (q : ℕ) → q % 10 < 10
low q = omega arith

pub digits_fraction : (k n : ℕ) → AllDigits 10 (fraction k n)
unfolding fraction
digits_fraction zero n = tt
digits_fraction (suc k) n = (let e = value_is (n / 10 ^ k % 10) (low (n / 10 ^ k)) in omega (arith, e, low (n / 10 ^ k)), digits_fraction k n)

joined : (q : ℕ) → q / 10 * 10 + q % 10 ≡ q
joined q = omega arith

pub value-fraction : (k n : ℕ) → digits_value_after 10 (n / 10 ^ k) (fraction k n) ≡ n
unfolding fraction
value-fraction zero n = omega arith
value-fraction (suc k) n =
    let q = n / 10 ^ k in
    let above : n / 10 ^ suc k ≡ q / 10 = ap (λ (p : ℕ). n / p) (pow-suc 10 k) ∙ sym (div-div-eq-div-mul n (10 ^ k) 10) in
    ap (λ (a : ℕ). digits_value_after 10 a (fraction k n)) (ap (λ (a : ℕ). a * 10 + digit_value (48 + q % 10)) above ∙ ap (λ (x : ℕ). q / 10 * 10 + x) (value_is (q % 10) (low q)) ∙ joined q) ∙ value-fraction k n

pub value-append : (xs ys : List ℕ) (w : ℕ) → digits_value_after 10 w (xs ++ ys) ≡ digits_value_after 10 (digits_value_after 10 w xs) ys
value-append [] ys w = refl
value-append (x ∷ xs) ys w = value-append xs ys (w * 10 + digit_value x)

pub AllDigits-split : (xs ys : List ℕ) → AllDigits 10 (xs ++ ys) → AllDigits 10 xs × AllDigits 10 ys
AllDigits-split [] ys h = (tt, h)
AllDigits-split (x ∷ xs) ys h = let r = AllDigits-split xs ys h.1 in ((h.0, r.0), r.1)

pub AllDigits-append : (xs ys : List ℕ) → AllDigits 10 xs → AllDigits 10 ys → AllDigits 10 (xs ++ ys)
AllDigits-append [] ys h g = g
AllDigits-append (x ∷ xs) ys h g = (h.0, AllDigits-append xs ys h.1 g)

pub zeros : (m : ℕ) → AllDigits 10 (replicate m 48)
zeros zero = tt
zeros (suc m) = (omega arith, zeros m)

pub value-zeros : (m : ℕ) → digits_value_after 10 0 (replicate m 48) ≡ 0
value-zeros zero = refl
value-zeros (suc m) = value-zeros m
