-- Texts that stand as they are in a record: numbers, times and words.
use Rattle.std.proofs.Common.{◌≡◌, ◌<◌, ◌≤◌, ◌^◌, ◌/◌, ℕ, ℤ, zero, suc, List, [], ◌∷◌, refl, ◌∙◌, arith, Bool, true, false, cond, inl, inr}
use Rattle.std.specs.Prelude.{◌≢◌, ◌==◌, decimal, nat_lt, pos, negsuc, codes}
use Rattle.std.specs.List.{list_any}
use Rattle.std.specs.Str.Parse.{AllDigits}
use Rattle.std.proofs.lemmas.Bool.Decides.{eqb_tells, Decides-ltb}
use Rattle.std.proofs.lemmas.Fmt.{digits_decimal}
use Rattle.std.proofs.lemmas.List.Folds.{list_any-append}
use Rattle.csv.specs.Writing.{default_writer, field_text, needs_byte}
use Rattle.tw_rows.specs.Instant.{inf}
use Rattle.row_reader.specs.NumberTexts.{fraction, units_text, number_text}
use Rattle.row_reader.specs.FieldTexts.{time_text}
use Rattle.row_reader.proofs.Digits.{own, digit_is, digits_fraction}
use Rattle.row_reader.proofs.Units.{quotient-le}

-- no byte calls for quotes
abbrev pub IsPlain : List ℕ → Type 0
IsPlain text = list_any (needs_byte default_writer) text ≡ false

pub field_text-plain : (text : List ℕ) → IsPlain text → field_text default_writer text ≡ text
field_text-plain text h = rw h refl

other : (b k : ℕ) → b ≢ k → (b == k) ≡ false
other b k h = elim (eqb_tells b k) [ inl t ↦ absurd (h t.1) | inr t ↦ t.0 ]

digit_byte : (b : ℕ) → 48 ≤ b → needs_byte default_writer b ≡ false
digit_byte b h = rw (other b 44 (λ e. omega (arith, e)), other b 34 (λ e. omega (arith, e)), other b 13 (λ e. omega (arith, e)), other b 10 (λ e. omega (arith, e))) refl

digits_plain : (ds : List ℕ) → AllDigits 10 ds → IsPlain ds
digits_plain [] h = refl
digits_plain (d ∷ ds) h = rw (digit_byte d (omega (arith, digit_is d h.0)), digits_plain ds h.1) refl

pub decimal_plain : (n : ℕ) → n < 2 ^ 64 → IsPlain (decimal n)
decimal_plain n h = digits_plain (decimal n) (digits_decimal own n h)

units_plain : (k n : ℕ) → n < 2 ^ 64 → IsPlain (units_text k n)
units_plain zero n h = decimal_plain n h
units_plain (suc k) n h =
    list_any-append (needs_byte default_writer) (decimal (n / 10 ^ suc k)) (46 ∷ fraction (suc k) n)
    ∙ rw (decimal_plain (n / 10 ^ suc k) (omega (arith, quotient-le n (10 ^ suc k))), digits_plain (fraction (suc k) n) (digits_fraction (suc k) n)) refl

-- below 2 ^ 64 without its sign
abbrev pub IsSmall : ℤ → Type 0
IsSmall (pos n) = n < 2 ^ 64
IsSmall (negsuc n) = suc n < 2 ^ 64

pub number_plain : (k : ℕ) (z : ℤ) → IsSmall z → IsPlain (number_text k z)
number_plain k (pos n) h = units_plain k n h
number_plain k (negsuc n) h = rw (units_plain k (suc n) h) refl

inf-is : inf ≡ 2 ^ 61
unfolding inf
inf-is = refl

time_by : (b : Bool) (t : ℕ) → nat_lt t inf ≡ b → IsPlain (cond b (decimal t) (codes "inf"))
time_by true t e = decimal_plain t (let low : t < inf = (Decides-ltb t inf).0 e in omega (arith, inf-is, low))
time_by false t e = refl

pub time_plain : (t : ℕ) → IsPlain (time_text t)
time_plain t = time_by (nat_lt t inf) t refl
