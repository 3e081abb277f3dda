-- What contracts see of an `Occupancy`, and the places of its bits. `bits_of`, `bit_of`, `IsClean` and `IsRoomy` are cited by its model alone.
use Rattle.std.specs.Prelude.{◌≡◌, ℕ, ◌+◌, ◌*◌, ◌/◌, ◌%◌, ◌<◌, ◌≤◌, ◌&&◌, ◌==◌, Bool, true, false, List, [], ◌∷◌, map, slice_index_or}
use Rattle.std.specs.List.{range_with_len}
use Rattle.std.specs.Int.{bit_at}

-- the truth values in order, and how many there is room for
pub record Bits : Type 0 where
  pub items : List Bool
  pub capacity : ℕ

-- the bit at the place is set: no bit past the end is
abbrev pub is_set_at : List Bool → ℕ → Bool
is_set_at bits place = slice_index_or bits place false

-- the least place at `from` or later whose bit is set
pub record IsNextSet (bits : List Bool) (from place : ℕ) : Type 0 where
  pub in_range : from ≤ place
  pub set : is_set_at bits place ≡ true
  pub least : (k : ℕ) → from ≤ k → k < place → is_set_at bits k ≡ false

-- no bit at `from` or later is set
abbrev pub IsNoneSet : List Bool → ℕ → Type 0
IsNoneSet bits from = (k : ℕ) → from ≤ k → is_set_at bits k ≡ false

-- place by place, true where both lists are: of true, true, false and true, false, false it is true, false, false
abbrev pub both : List Bool → List Bool → List Bool
both [] ys = []
both (x ∷ xs) [] = []
both (x ∷ xs) (y ∷ ys) = (x && y) ∷ both xs ys

-- whether bit i of the word is set
unfoldable pub test : ℕ → ℕ → Bool
test word i = bit_at word i == 1

-- the bit at a place of words of 64 bits
unfoldable pub bit_of : List ℕ → ℕ → Bool
bit_of words place = test (slice_index_or words (place / 64) 0) (place % 64)

-- the first `count` bits of words
unfoldable pub bits_of : List ℕ → ℕ → List Bool
bits_of words count = map (bit_of words) (range_with_len 0 count)

-- the lowest `count` bits of a word, the lowest first
abbrev pub word_bits : ℕ → ℕ → List Bool
word_bits word count = map (test word) (range_with_len 0 count)

-- no bit at `count` or later is set
pub record IsClean (words : List ℕ) (count : ℕ) : Type 0 where
  pub rest : (place : ℕ) → count ≤ place → bit_of words place ≡ false

-- there are as many words as the bits need, and there is room for those that the capacity needs
pub record IsRoomy (words room len capacity : ℕ) : Type 0 where
  pub enough : len ≤ 64 * words
  pub needed : 64 * words ≤ len + 63
  pub within : len ≤ capacity
  pub reserved : capacity ≤ 64 * room
