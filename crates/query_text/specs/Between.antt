-- How a text falls into its words: spaces stand between them, and each is what is taken at its place.
use Rattle.std.specs.Prelude.{◌≡◌, ℕ, ◌+◌, ◌<◌, true, false, List, [], ◌∷◌, length, take, drop, get_or}
use Rattle.std.specs.List.{list_all}
use Rattle.query_text.specs.declared.word.Spot.{Spot}
use Rattle.query_text.specs.Words.{is_space}
use Rattle.query_text.specs.Forms.{IsTaken}

-- The bytes, whose first has the offset `at`, are k spaces, a word of n bytes, and so on; spaces follow the last word.
abbrev pub FallsInto : ℕ → List ℕ → List Spot → Type 0
FallsInto at bs [] = list_all is_space bs ≡ true
FallsInto at bs (spot ∷ spots) =
    (k : ℕ) × (n : ℕ) × (k < length bs) × (list_all is_space (take k bs) ≡ true) × (is_space (get_or bs k 0) ≡ false)
    × (spot.at ≡ at + k) × IsTaken (drop k bs) (spot.word, n) × FallsInto (at + k + n) (drop n (drop k bs)) spots
