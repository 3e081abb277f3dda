-- Worked cases.
use Rattle.std.specs.Prelude.{◌≡◌, ℕ, pos, true, false, List, [], ◌∷◌, refl}
use Rattle.tw_rows.specs.Rows.{Row}
use Rattle.tw_rows.specs.declared.row.Value.TheVariants.{Int, Text}
use Rattle.tw_rows.specs.declared.cells.Datum.TheVariants.{Int as IntDatum, Text as PlaceDatum}
use Rattle.plan_model.specs.Changes.{Started, Ended}
use Rattle.egress.specs.declared.moves.Moves.{Moves}
use Rattle.egress.specs.Instants.{end_lines, start_lines, instant_lines, open_after}
use Rattle.plan_laws.specs.RowCells.{cells_of}
use Rattle.egress.specs.Kept.{ends_in, starts_in, rows_of, are_placed, stand_for}

abbrev seven : Row
seven = Int (pos 7) ∷ []

-- two ends and one start of a row that is open since 3 and 4 are one end line, for the first, and leave the second
first_is_ended : end_lines (λ r. 2) (λ r. 1) 9 (λ r. 3 ∷ 4 ∷ []) seven ≡ Ended 9 3 seven ∷ []
first_is_ended = refl

second_is_left : open_after (λ r. 2) (λ r. 1) 9 (λ r. 3 ∷ 4 ∷ []) seven ≡ 4 ∷ []
second_is_left = refl

-- three starts and one end are two start lines, which are open after those that were open before
new_starts : start_lines (λ r. 1) (λ r. 3) 9 seven ≡ Started 9 seven ∷ Started 9 seven ∷ []
new_starts = refl

new_ones_come_last : open_after (λ r. 1) (λ r. 3) 9 (λ r. 5 ∷ []) seven ≡ 5 ∷ 9 ∷ 9 ∷ []
new_ones_come_last = refl

-- a life that touches the next one of its row has no lines
touching_lives : instant_lines (λ r. 1) (λ r. 1) 9 (λ r. 5 ∷ []) (seven ∷ []) ≡ []
unfolding instant_lines
touching_lives = refl

-- the cells of a row, and of one with a text that the table does not have
two_texts : List (List ℕ)
two_texts = (97 ∷ []) ∷ (98 ∷ []) ∷ []

known_text : cells_of two_texts (Text (98 ∷ []) ∷ Int (pos 7) ∷ []) ≡ PlaceDatum 1 ∷ IntDatum (pos 7) ∷ []
unfolding two_texts
known_text = refl

other_text : are_placed two_texts (cells_of two_texts (Text (99 ∷ []) ∷ [])) ≡ false
unfolding two_texts
other_text = refl

place_stands : stand_for two_texts (Text (98 ∷ []) ∷ []) (PlaceDatum 1 ∷ []) ≡ true
unfolding two_texts
place_stands = refl

-- moves of the row `b`: it ends twice and starts once
of_b : Moves
of_b = record { cells = PlaceDatum 1 ∷ []; ends = 2; starts = 1 }

rows_are_read : rows_of two_texts (of_b ∷ []) ≡ (Text (98 ∷ []) ∷ []) ∷ []
unfolding two_texts of_b
rows_are_read = refl

row_ends_twice : ends_in two_texts (of_b ∷ []) (Text (98 ∷ []) ∷ []) ≡ 2
unfolding two_texts of_b
row_ends_twice = refl

row_starts_once : starts_in two_texts (of_b ∷ []) (Text (98 ∷ []) ∷ []) ≡ 1
unfolding two_texts of_b
row_starts_once = refl

other_row_stays : ends_in two_texts (of_b ∷ []) (Text (97 ∷ []) ∷ []) ≡ 0
unfolding two_texts of_b
other_row_stays = refl
