-- Numbers as they are spelled: each has one text, the one in which it is printed.
use Rattle.std.specs.Prelude.{ℕ, ℤ, ◌^◌, Bool, List, [], ◌∷◌, Option, Some, None, if◌then◌else◌, nat_lt, nat_eq, ◌&&◌, ◌==◌, decimal, pos, negsuc, ◌+◌, ◌-◌, length, slice_index}
use Rattle.std.specs.Cmp.Lexicographic.{pointwise}
use Rattle.std.specs.Str.Parse.{digits_value, signed_digits_value}
use Rattle.row_reader.specs.NumberTexts.{number_text}

abbrev pub same_text : List ℕ → List ℕ → Bool
same_text a b = pointwise nat_eq a b

-- the number below the limit whose text this is: "17" spells 17, "017" and "+17" spell none
unfoldable pub number_of : ℕ → List ℕ → Option ℕ
number_of limit text =
    if nat_lt (digits_value 10 text) limit && same_text (decimal (digits_value 10 text)) text then Some (digits_value 10 text) else None

abbrev pub fits_i64 : ℤ → Bool
fits_i64 (pos n) = nat_lt n (2 ^ 63)
fits_i64 (negsuc n) = nat_lt n (2 ^ 63)

-- the bytes without the points among them
abbrev pub without_points : List ℕ → List ℕ
without_points [] = []
without_points (b ∷ bs) = if b == 46 then without_points bs else b ∷ without_points bs

-- the number of 64 bits with a sign, in units of which 10 ^ k make one, whose text this is: for k = 2 "-0.05" spells -5, and
-- "-0.5", "-0.00" and "5" spell none; for k = 0 "5" spells 5
unfoldable pub units_of : ℕ → List ℕ → Option ℤ
units_of k text = let z = signed_digits_value 10 (without_points text) in if fits_i64 z && same_text (number_text k z) text then Some z else None

-- that many units below zero, which none are for 0, and above it, where they are within 64 bits with a sign
abbrev pub below_zero : ℕ → Option ℤ
below_zero units = if nat_lt 0 units && nat_lt units (2 ^ 63 + 1) then Some (negsuc (units - 1)) else None

abbrev pub above_zero : ℕ → Option ℤ
above_zero units = if nat_lt units (2 ^ 63) then Some (pos units) else None

unfoldable pub has_minus : List ℕ → Bool
has_minus text = nat_lt 0 (length text) && (slice_index text 0 == 45)
