-- How a cutter stands to all the bytes that it was fed, and what its answers say of the lines of these bytes.
use Rattle.std.specs.Prelude.{◌≡◌, ◌≤◌, ◌<◌, ℕ, ◌+◌, ◌-◌, min, Bool, IsTrue, List, [], ◌∷◌, ◌++◌, length, take}
use Rattle.std.specs.List.{All}
use Rattle.wire_lines.specs.Lines.{IsOneLine, joined, whole, rest, lines}
use Rattle.wire_lines.specs.Cutter.{CutterState, Next, Given, Overlong, Overfull, Wanting}
use Rattle.wire_lines.specs.Next.{after_next}

-- the rest holds no LF, is no longer than a line may be, and no more bytes were fed than the input may have
pub record IsSettled (bytes : List ℕ) (s : CutterState) : Type 0 where
  pub one_line : IsOneLine s.rest
  pub short : length s.rest ≤ s.longest
  pub few : length bytes ≤ s.total

-- the bytes fed are the lines given, each with its LF, and then the rest
pub record Cuts (bytes : List ℕ) (s : CutterState) (given : List (List ℕ)) : Type 0 where
  pub all : bytes ≡ joined given ++ s.rest
  pub each : All IsOneLine given
  pub number_is : s.number ≡ length given
  pub passed_is : s.passed ≡ length (joined given)
  pub fits : s.passed ≤ s.total
  pub settled : IsTrue s.wants_bytes → IsSettled bytes s

-- the line is the next one of the bytes, whatever follows and whether or not the input has ended
pub record GivesLine (bytes : List ℕ) (s : CutterState) (given : List (List ℕ)) (number : ℕ) (line : List ℕ) : Type 0 where
  pub number_is : number ≡ length given + 1
  pub one_line : IsOneLine line
  pub short : length line ≤ s.longest
  pub among_whole : (others : List (List ℕ)) × (whole bytes ≡ given ++ line ∷ others)
  pub among_lines : (at_end : Bool) → (others : List (List ℕ)) × (lines bytes at_end ≡ given ++ line ∷ others)
  pub after : Cuts bytes (after_next s) (given ++ line ∷ [])

-- the next line has more bytes than a line may have, among those that the input may have
pub record FindsTooLong (bytes : List ℕ) (s : CutterState) (given : List (List ℕ)) (number : ℕ) : Type 0 where
  pub number_is : number ≡ length given + 1
  pub line : List ℕ
  pub more : List ℕ
  pub bytes_are : bytes ≡ joined given ++ (line ++ more)
  pub one_line : IsOneLine line
  pub long : s.longest < min (s.total - s.passed) (length line)
  pub among_lines : 65536 ≤ s.longest → (at_end : Bool) → (others : List (List ℕ)) × (lines bytes at_end ≡ given ++ line ∷ others)
  pub after : Cuts bytes (after_next s) given

-- more bytes were fed than the input may have, and those that it may have hold the lines given and no line that is too long
pub record FindsTooMany (bytes : List ℕ) (s : CutterState) (given : List (List ℕ)) : Type 0 where
  pub more : s.total < length bytes
  pub whole_are : whole (take s.total bytes) ≡ given
  pub short : length (rest (take s.total bytes)) ≤ s.longest
  pub after : Cuts bytes (after_next s) given

-- the lines given are all whole lines of the bytes, and the cutter holds what follows the last LF
pub record HasGivenAll (bytes : List ℕ) (s : CutterState) (given : List (List ℕ)) : Type 0 where
  pub whole_are : whole bytes ≡ given
  pub rest_is : rest bytes ≡ s.rest
  pub settled : IsSettled bytes s
  pub asks : IsTrue (after_next s).wants_bytes
  pub after : Cuts bytes (after_next s) given

-- what an answer of `next_line` says of the bytes
abbrev pub Tells : List ℕ → CutterState → List (List ℕ) → Next → Type 0
Tells bytes s given (Given number line) = GivesLine bytes s given number line
Tells bytes s given (Overlong number) = FindsTooLong bytes s given number
Tells bytes s given Overfull = FindsTooMany bytes s given
Tells bytes s given Wanting = HasGivenAll bytes s given
