-- The definitions, worked out on a few rows.
use Rattle.std.specs.Prelude.{◌≡◌, pos, true, false, List, [], ◌∷◌, refl}
use Rattle.tw_rows.specs.SameCells.{same_cells}
use Rattle.tw_rows.specs.declared.cells.Datum.{Datum}
use Rattle.tw_rows.specs.declared.cells.Datum.TheVariants.{Int}
use Rattle.synopsis.specs.Words.{folded}
use Rattle.synopsis.specs.Held.{key_of, is_of_key}

abbrev row : List Datum
row = Int (pos 5) ∷ Int (pos 6) ∷ Int (pos 7) ∷ []

-- the columns 2 and 0, in this order; a column that is not there reads as 0
keys_of_a_row : key_of (2 ∷ 0 ∷ []) row ≡ Int (pos 7) ∷ Int (pos 5) ∷ []
keys_of_a_row = refl

key_past_the_row : key_of (3 ∷ []) row ≡ Int (pos 0) ∷ []
key_past_the_row = refl

-- the row has 7 in the column 2, and not 6
row_has_its_key : is_of_key (2 ∷ []) (Int (pos 7) ∷ []) (record { cells = row; start = 3 }) ≡ true
unfolding same_cells
row_has_its_key = refl

row_has_no_other_key : is_of_key (2 ∷ []) (Int (pos 6) ∷ []) (record { cells = row; start = 3 }) ≡ false
unfolding same_cells
row_has_no_other_key = refl

-- the product of small words has no upper half
small_words_are_multiplied : folded 3 5 ≡ 15
unfolding folded
small_words_are_multiplied = refl
