-- A few rows in a list, those of a key side by side.
use Rattle.std.specs.Prelude.{◌≡◌, ◌≢◌, ◌+◌, ◌-◌, ◌<◌, ◌⊎◌, ℕ, map, get_or, Bool, true, false, List, [], ◌∷◌, length}
use Rattle.std.specs.List.{AllByRecursion}
use Rattle.tw_rows.specs.Words.{word_of_cells}
use Rattle.tw_rows.specs.declared.edge.HeldRow.{HeldRow}
use Rattle.synopsis.specs.Held.{key_of, is_of_key}
use Rattle.synopsis.specs.Buckets.{Entry, rows_in, AreKeyed}

-- whether the second row has the data of the first in the key columns. By the column 1, the row 7, 6 has those of 5, 6
abbrev pub same_key : List ℕ → HeldRow → HeldRow → Bool
same_key columns r = is_of_key columns (key_of columns r.cells)

-- no row passes the test, and each row does
abbrev pub NonePass : (HeldRow → Bool) → List HeldRow → Type 0
NonePass p = AllByRecursion (λ r. p r ≡ false)

abbrev pub AllPass : (HeldRow → Bool) → List HeldRow → Type 0
AllPass p = AllByRecursion (λ r. p r ≡ true)

-- the first row fails the test, and it passes, where there is one
abbrev pub IsOver : (HeldRow → Bool) → List HeldRow → Type 0
IsOver p [] = Unit {0}
IsOver p (r ∷ rs) = p r ≡ false

abbrev pub StandsHere : (HeldRow → Bool) → List HeldRow → Type 0
StandsHere p [] = Unit {0}
StandsHere p (r ∷ rs) = p r ≡ true

-- the first row passes the test, or none does
abbrev pub StandsFirst : (HeldRow → Bool) → List HeldRow → Type 0
StandsFirst p [] = Unit {0}
StandsFirst p (r ∷ rs) = (p r ≡ true) ⊎ NonePass p (r ∷ rs)

-- the rows of each key stand side by side: in the order of the keys 1, 1, 2 and not 1, 2, 1
abbrev pub AreTogether : List ℕ → List HeldRow → Type 0
AreTogether columns [] = Unit {0}
AreTogether columns (r ∷ rs) = StandsFirst (same_key columns r) rs × AreTogether columns rs

-- the word of the key of a row: rows of two words have two keys
abbrev pub key_word : List ℕ → HeldRow → ℕ
key_word columns r = word_of_cells (key_of columns r.cells)

-- the last two words differ, and so do those beside the place: where the row there goes, the last may take its place. By 1, 2, 3 it may
-- take that of the row of 1; by 1, 2, 3, 3 it may not, as rows of 3 would part, nor by 1, 1, 1, 3 that of the second row
pub record MayFill (words : List ℕ) (place : ℕ) : Type 0 where
  pub before_last : place + 2 < length words
  pub alone : get_or words (length words - 2) 0 ≢ get_or words (length words - 1) 0
  pub border : (place ≡ 0) ⊎ (get_or words (place - 1) 0 ≢ get_or words (place + 1) 0)

-- key columns and rows
pub record FewRows : Type 0 where
  pub columns : List ℕ
  pub rows : List HeldRow

-- the rows of each key stand side by side, and beside each row the word of its key
pub record AreFew (columns : List ℕ) (rows : List HeldRow) (words : List ℕ) : Type 0 where
  pub together : AreTogether columns rows
  pub marked : words ≡ map (key_word columns) rows

-- a few rows as one block, where there are some
abbrev pub few_block : List HeldRow → List (List HeldRow)
few_block [] = []
few_block (r ∷ rs) = (r ∷ rs) ∷ []

-- the rows stand in the list or in buckets by their keys, and not in both; so many they are
pub record AreHeld {S : Type 0} (columns : List ℕ) (few : FewRows) (es : List (Entry S)) (count : ℕ) : Type 0 where
  pub keyed : AreKeyed columns es
  pub alike : few.columns ≡ columns
  pub one : (few.rows ≡ []) ⊎ (es ≡ [])
  pub counted : count ≡ length few.rows + length (rows_in es)
