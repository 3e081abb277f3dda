-- Tables of texts. A text is the list of its bytes, and its place is its number in the table.
use Rattle.std.specs.Prelude.{◌≡◌, ℕ, List, [], ◌∷◌, ◌++◌, if◌then◌else◌}
use Rattle.std.specs.List.{list_any}
use Rattle.std.specs.Str.{bytes_eq}

-- the table once a text is in it: as it was where it has the text, else with the text last
abbrev pub interned : List (List ℕ) → List ℕ → List (List ℕ)
interned texts text = if list_any (bytes_eq text) texts then texts else texts ++ text ∷ []

-- a list that begins with another, so that each item of the other keeps its place
abbrev pub BeginsWith : {X : Type 0} → List X → List X → Type 0
BeginsWith {X} new old = (more : List X) × (new ≡ old ++ more)
