-- Room in a buffer.
use Rattle.std.specs.Prelude.{◌<◌, ◌+◌, ℕ, List, length, Vec, vec_capacity}

-- it has no room for the text behind what it holds. Where it has room for 8 bytes and holds 2: a text of 7
abbrev pub LacksRoom : {Z : Type 0} → Vec ℕ Z → List ℕ → Type 0
LacksRoom v text = vec_capacity v < length v.items + length text
