-- Numbers as they are spelled.
use Rattle.std.specs.Prelude.{ℕ, zero, suc, ℤ, pos, negsuc, ◌+◌, ◌-◌, ◌^◌, ◌/◌, ◌%◌, List, [], ◌∷◌, ◌++◌, decimal, if◌then◌else◌, nat_lt, length, take, drop, replicate}

-- the last k digits of a number: `05` for k = 2 and 1205
unfoldable pub fraction : ℕ → ℕ → List ℕ
fraction zero n = []
fraction (suc k) n = (48 + n / 10 ^ k % 10) ∷ fraction k n

-- n units, of which 10 ^ k make one: the whole part, a point and k digits, and no point where k is 0. For k = 2 150 units are `1.50`
abbrev pub units_text : ℕ → ℕ → List ℕ
units_text zero n = decimal n
units_text (suc k) n = decimal (n / 10 ^ suc k) ++ 46 ∷ fraction (suc k) n

-- the same with a sign: `-0.05` for k = 2 and -5, `-5` for k = 0
abbrev pub number_text : ℕ → ℤ → List ℕ
number_text k (pos n) = units_text k n
number_text k (negsuc n) = 45 ∷ units_text k (suc n)

-- digits with a point before the last k of them, and zeros before them where they are too few: `05` and k = 2 give `0.05`
abbrev pub pointed : ℕ → List ℕ → List ℕ
pointed k digits = if nat_lt k (length digits) then take (length digits - k) digits ++ 46 ∷ drop (length digits - k) digits
    else 48 ∷ 46 ∷ (replicate (k - length digits) 48 ++ digits)
