-- The number of units that a text spells.
use Rattle.std.proofs.Common.{◌≡◌, ◌<◌, ◌^◌, ◌/◌, ℕ, ℤ, zero, suc, List, [], ◌∷◌, ◌++◌, length, get_or, Bool, true, false, cond, Some, None, refl, sym, ◌∙◌, ap, arith, inl, inr}
use Rattle.std.specs.Prelude.{◌&&◌, ◌==◌, pos, negsuc, decimal, slice_index}
use Rattle.std.specs.Str.Parse.{AllDigits, digits_value, digits_value_after, signed_digits_value}
use Rattle.std.proofs.lemmas.Bool.Decides.{Decides-ltb, eqb_tells}
use Rattle.std.proofs.lemmas.Fmt.{digits_decimal, digits_value-decimal, decimal_nonempty}
use Rattle.std.proofs.lemmas.List.{length-append}
use Rattle.row_reader.specs.NumberTexts.{fraction, units_text, number_text}
use Rattle.row_reader.proofs.Digits.{own, digit_is, digits_fraction, value-fraction, value-append, AllDigits-append}
use Rattle.row_reader.proofs.Units.{quotient-le}
use Rattle.row_reader.specs.Number.{units_of, without_points, fits_i64, same_text}
use Rattle.row_reader.proofs.Numbers.{same_text-Decides}
use Rattle.row_reader.proofs.Records.{other}

without-digits : (ds : List ℕ) → AllDigits 10 ds → without_points ds ≡ ds
without-digits [] h = refl
without-digits (d ∷ ds) h = rw (other d 46 (λ e. omega (arith, e, digit_is d h.0)), without-digits ds h.1) refl

without-append : (xs ys : List ℕ) → without_points (xs ++ ys) ≡ without_points xs ++ without_points ys
without-append [] ys = refl
without-append (x ∷ xs) ys = elim (eqb_tells x 46) [
  | inl t ↦ rw t.0 (without-append xs ys)
  | inr t ↦ rw t.0 (ap (λ (l : List ℕ). x ∷ l) (without-append xs ys))
]

-- the digits of the units, without the point
record Digits (k n : ℕ) : Type 0 where
  ds : List ℕ
  same : without_points (units_text k n) ≡ ds
  digits : AllDigits 10 ds
  some : 0 < length ds
  value : digits_value 10 ds ≡ n

digits_of : (k n : ℕ) → n < 2 ^ 64 → Digits k n
digits_of zero n h = record {
  ds = decimal n;
  same = without-digits (decimal n) (digits_decimal own n h);
  digits = digits_decimal own n h;
  some = decimal_nonempty n h;
  value = digits_value-decimal own n h;
}
digits_of (suc k) n h =
    let w = n / 10 ^ suc k in
    let low : w < 2 ^ 64 = omega (arith, quotient-le n (10 ^ suc k), h) in
    let f = fraction (suc k) n in record {
      ds = decimal w ++ f;
      same = without-append (decimal w) (46 ∷ f) ∙ ap (λ (l : List ℕ). l ++ without_points f) (without-digits (decimal w) (digits_decimal own w low))
          ∙ ap (λ (l : List ℕ). decimal w ++ l) (without-digits f (digits_fraction (suc k) n));
      digits = AllDigits-append (decimal w) f (digits_decimal own w low) (digits_fraction (suc k) n);
      some = omega (arith, length-append (decimal w) f, decimal_nonempty w low);
      value = value-append (decimal w) f 0 ∙ ap (λ v. digits_value_after 10 v f) (digits_value-decimal own w low) ∙ value-fraction (suc k) n;
    }

first_above : (xs : List ℕ) → 0 < length xs → AllDigits 10 xs → 47 < slice_index xs 0
first_above [] h p = absurd (omega arith)
first_above (x ∷ xs) h p = omega (arith, digit_is x p.0)

no_sign : (xs : List ℕ) (sign : ℕ) → sign < 47 → 47 < slice_index xs 0 → (slice_index xs 0 == sign) ≡ false
no_sign xs sign low high = elim (eqb_tells (slice_index xs 0) sign) [ inl t ↦ absurd (omega (arith, t.1)) | inr t ↦ t.0 ]

without_sign : (ds : List ℕ) → 0 < length ds → AllDigits 10 ds → signed_digits_value 10 ds ≡ pos (digits_value 10 ds)
without_sign ds some h =
    let high = first_above ds some h in
    rw (no_sign ds 45 (omega arith) high, no_sign ds 43 (omega arith) high) refl

with_sign : (ds : List ℕ) (n : ℕ) → digits_value 10 ds ≡ suc n → signed_digits_value 10 (45 ∷ ds) ≡ negsuc n
with_sign ds n e = rw e refl

-- the digits and the sign of a number say that number
signed_value : (k : ℕ) (z : ℤ) → fits_i64 z ≡ true → signed_digits_value 10 (without_points (number_text k z)) ≡ z
signed_value k (pos n) h =
    let low : n < 2 ^ 63 = (Decides-ltb _ _).0 h in
    let d = digits_of k n (omega arith) in
    ap (signed_digits_value 10) d.same ∙ without_sign d.ds d.some d.digits ∙ ap pos d.value
signed_value k (negsuc n) h =
    let low : n < 2 ^ 63 = (Decides-ltb _ _).0 h in
    let d = digits_of k (suc n) (omega arith) in
    ap (λ (l : List ℕ). signed_digits_value 10 (45 ∷ l)) d.same ∙ with_sign d.ds n d.value

passes : (p q : Bool) (n : ℤ) → ((p ≡ true) → (q ≡ true) → ⊥) → cond (p && q) (Some n) None ≡ None
passes true true n h = absurd (h refl refl)
passes true false n h = refl
passes false q n h = refl

pub units_of-none : (k : ℕ) (text : List ℕ) → ((z : ℤ) → fits_i64 z ≡ true → text ≡ number_text k z → ⊥) → units_of k text ≡ None
unfolding units_of
units_of-none k text none =
    let z = signed_digits_value 10 (without_points text) in
    passes (fits_i64 z) (same_text (number_text k z) text) z (λ p q. none z p (sym ((same_text-Decides _ text).0 q)))

some_by : (k : ℕ) (text : List ℕ) (y z : ℤ) → y ≡ z → fits_i64 z ≡ true → text ≡ number_text k z → cond (fits_i64 y && same_text (number_text k y) text) (Some y) None ≡ Some z
some_by k text y z value fits e =
    let same : same_text (number_text k z) text ≡ true = (same_text-Decides (number_text k z) text).1 (sym e) in
    rw (value, fits, same) refl

pub units_of-spelled : (k : ℕ) (text : List ℕ) (z : ℤ) → fits_i64 z ≡ true → text ≡ number_text k z → units_of k text ≡ Some z
unfolding units_of
units_of-spelled k text z fits e = some_by k text (signed_digits_value 10 (without_points text)) z (ap (λ (t : List ℕ). signed_digits_value 10 (without_points t)) e ∙ signed_value k z fits) fits e

passed : (p q : Bool) (n m : ℤ) → cond (p && q) (Some n) None ≡ Some m → (p ≡ true) × (q ≡ true) × (n ≡ m)
passed true true n m e = (refl, refl, cc)
passed true false n m e = absurd (cc)
passed false q n m e = absurd (cc)

pub units_of-is : (k : ℕ) (text : List ℕ) (z : ℤ) → units_of k text ≡ Some z → (fits_i64 z ≡ true) × (text ≡ number_text k z)
unfolding units_of
units_of-is k text z e =
    let y = signed_digits_value 10 (without_points text) in
    let p = passed (fits_i64 y) (same_text (number_text k y) text) y z e in
    (ap fits_i64 (sym p.2) ∙ p.0, sym ((same_text-Decides _ text).0 p.1) ∙ ap (number_text k) p.2)

-- a text that begins with a minus is no number without one
front_first : (xs ys : List ℕ) → 0 < length xs → 47 < get_or xs 0 0 → 47 < get_or (xs ++ ys) 0 0
front_first [] ys h p = absurd (omega arith)
front_first (x ∷ xs) ys h p = p

pub units_first : (k n : ℕ) → n < 2 ^ 64 → 47 < get_or (units_text k n) 0 0
units_first zero n h = first_above (decimal n) (decimal_nonempty n h) (digits_decimal own n h)
units_first (suc k) n h =
    let w = n / 10 ^ suc k in
    let low : w < 2 ^ 64 = omega (arith, quotient-le n (10 ^ suc k), h) in
    front_first (decimal w) (46 ∷ fraction (suc k) n) (decimal_nonempty w low) (first_above (decimal w) (decimal_nonempty w low) (digits_decimal own w low))

-- different numbers of units have different texts
pub units_injective : (k m n : ℕ) → m < 2 ^ 64 → n < 2 ^ 64 → units_text k m ≡ units_text k n → m ≡ n
units_injective k m n p q e =
    let a = digits_of k m p in
    let b = digits_of k n q in
    let same : a.ds ≡ b.ds = sym a.same ∙ ap without_points e ∙ b.same in
    sym a.value ∙ ap (digits_value 10) same ∙ b.value
