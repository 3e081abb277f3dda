-- The lanes of a block.
use Rattle.std.specs.Prelude.{ℕ, List, ℤ, pos, slice_index_or}

-- the number of lane k: of 7, -2 that of lane 1 is -2. Past the end it is 0
abbrev pub number : List ℤ → ℕ → ℤ
number xs k = slice_index_or xs k (pos 0)

-- the place of lane k, and 0 past the end
abbrev pub place : List ℕ → ℕ → ℕ
place xs k = slice_index_or xs k 0
