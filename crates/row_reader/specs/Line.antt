-- The bytes of a line that are read.
use Rattle.std.specs.Prelude.{◌≢◌, ◌<◌, [], ◌∷◌, ℕ, ◌-◌, Bool, List, if◌then◌else◌, nat_lt, ◌==◌, ◌&&◌, length, take, drop, slice_index}

-- without one CR at its end
unfoldable pub stripped : List ℕ → List ℕ
stripped xs = if nat_lt 0 (length xs) && (slice_index xs (length xs - 1) == 13) then take (length xs - 1) xs else xs

-- whether the bytes begin with the byte order mark, U+FEFF in UTF-8
unfoldable pub has_mark : List ℕ → Bool
has_mark xs = nat_lt 2 (length xs) && (slice_index xs 0 == 239) && (slice_index xs 1 == 187) && (slice_index xs 2 == 191)

-- what is read of a line: no CR at its end, and, where it is the first of the input, no byte order mark
unfoldable pub text_of : Bool → List ℕ → List ℕ
text_of first line = if first && has_mark (stripped line) then drop 3 (stripped line) else stripped line

-- each byte is ASCII, and none is a CR or a double quote: so is `a,1`
abbrev pub AreSimple : List ℕ → Type 0
AreSimple [] = Unit {0}
AreSimple (b ∷ bs) = (b < 128) × (b ≢ 13) × (b ≢ 34) × AreSimple bs
