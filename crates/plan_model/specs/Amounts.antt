-- What aggregates make of a list of ints, and when a group is too large to have a row.
use Rattle.std.specs.Prelude.{ℕ, ◌-◌, ◌^◌, ℤ, pos, negsuc, ◌+ℤ◌, int_lt, Bool, ◌||◌, List, [], ◌∷◌}
use Rattle.std.specs.Int.{int_min, int_max}

-- the whole number that the ints make together, without a bound. Of 5, -7 and 1: -1
abbrev pub exact_sum : List ℤ → ℤ
exact_sum [] = pos 0
exact_sum (x ∷ xs) = x +ℤ exact_sum xs

-- the least of x and the ints of the list
abbrev pub least_from : ℤ → List ℤ → ℤ
least_from x [] = x
least_from x (y ∷ ys) = int_min x (least_from y ys)

-- the least int. Of none it is 0; a group has a row
abbrev pub least_int : List ℤ → ℤ
least_int [] = pos 0
least_int (x ∷ xs) = least_from x xs

-- the greatest of x and the ints of the list
abbrev pub greatest_from : ℤ → List ℤ → ℤ
greatest_from x [] = x
greatest_from x (y ∷ ys) = int_max x (greatest_from y ys)

-- the greatest int. Of none it is 0; a group has a row
abbrev pub greatest_int : List ℤ → ℤ
greatest_int [] = pos 0
greatest_int (x ∷ xs) = greatest_from x xs

-- as many rows as a group may have
unfoldable pub most_rows : ℕ
most_rows = 2 ^ 62

-- the number is below -2^63 or above 2^63 - 1
abbrev pub is_outside_i64 : ℤ → Bool
is_outside_i64 z = int_lt z (negsuc (2 ^ 63 - 1)) || int_lt (pos (2 ^ 63 - 1)) z
