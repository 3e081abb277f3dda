-- Words that are joined to a number.
use Rattle.std.specs.Prelude.{ℕ, ◌-◌, ◌*◌, ◌/◌, ◌^◌, bit_and, bit_xor}

-- the two halves of the product of 128 bits, by xor: of 3 and 5, 15
unfoldable pub folded : ℕ → ℕ → ℕ
folded a b = bit_xor (bit_and (a * b) (2 ^ 64 - 1)) (a * b / 2 ^ 64)

-- one more word is joined to a number
abbrev pub joined : ℕ → ℕ → ℕ
joined state word = folded (bit_xor state word) 0x9e37_79b9_7f4a_7c15
