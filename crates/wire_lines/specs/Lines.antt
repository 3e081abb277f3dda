-- Bytes and their lines. An LF ends a line and is none of its bytes; the number of a line is its place, counted from 1.
use Rattle.std.specs.Prelude.{◌≡◌, ◌≢◌, ℕ, suc, List, [], ◌∷◌, ◌++◌, Bool, if◌then◌else◌, ◌==◌, ◌||◌, ◌&&◌, nat_lt, length, flat_map}
use Rattle.std.specs.List.{All}

-- how many bytes stand before the first LF, or all of them
abbrev pub line_len : List ℕ → ℕ
line_len [] = 0
line_len (b ∷ bs) = if b == 10 then 0 else suc (line_len bs)

-- no LF is among the bytes
abbrev pub IsOneLine : List ℕ → Type 0
IsOneLine bytes = line_len bytes ≡ length bytes

-- the byte goes in front of the first line, or of the rest where there is no line
abbrev pub onto_first : ℕ → List (List ℕ) × List ℕ → List (List ℕ) × List ℕ
onto_first b ([], rest) = ([], b ∷ rest)
onto_first b (line ∷ lines, rest) = ((b ∷ line) ∷ lines, rest)

-- the lines that an LF ends, and what follows the last LF: `ab`, LF, LF, `c` are cut into the lines `ab` and the empty one, and the rest `c`
abbrev pub cut : List ℕ → List (List ℕ) × List ℕ
cut [] = ([], [])
cut (b ∷ bs) = if b == 10 then ([] ∷ (cut bs).0, (cut bs).1) else onto_first b (cut bs)

-- the lines that an LF ends
abbrev pub whole : List ℕ → List (List ℕ)
whole bytes = (cut bytes).0

-- what follows the last LF
abbrev pub rest : List ℕ → List ℕ
rest bytes = (cut bytes).1

-- the rest is a last line where it has more than 65,536 bytes, or where the input has ended and it isn't empty
abbrev pub last_of : List ℕ → Bool → List (List ℕ)
last_of rest ended = if nat_lt 65536 (length rest) || (ended && nat_lt 0 (length rest)) then rest ∷ [] else []

-- the whole lines, and the rest where it is a last line
abbrev pub with_last : List (List ℕ) × List ℕ → Bool → List (List ℕ)
with_last parts ended = parts.0 ++ last_of parts.1 ended

-- the lines of the bytes, of an input that has ended or goes on
unfoldable pub lines : List ℕ → Bool → List (List ℕ)
lines bytes ended = with_last (cut bytes) ended

-- the lines, each with its LF
abbrev pub joined : List (List ℕ) → List ℕ
joined lines = flat_map (λ line. line ++ 10 ∷ []) lines

-- no byte is an LF
abbrev pub HasNoLf : List ℕ → Type 0
HasNoLf bytes = All (λ b. b ≢ 10) bytes
