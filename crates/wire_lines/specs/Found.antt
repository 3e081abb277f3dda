-- What stands next in the bytes.
use Rattle.std.specs.Prelude.{◌≤◌, ◌<◌, ℕ, min, List, length, if◌then◌else◌, nat_lt}
use Rattle.wire_lines.specs.Lines.{line_len}
use Rattle.wire_lines.specs.declared.cutter.Found.{Found}
use Rattle.wire_lines.specs.declared.cutter.Found.TheVariants.{TooLong, Line, TooMany, More}

-- of the rest, where a line has `longest` bytes at most and `room` more bytes of the input may come:
-- the first line is too long, or ends among these bytes, or more bytes came than may, or its LF is still to come
abbrev pub found : ℕ → ℕ → List ℕ → Found
found longest room rest =
    if nat_lt longest (min room (line_len rest)) then TooLong
    else if nat_lt (line_len rest) (min room (length rest)) then Line (line_len rest)
    else if nat_lt room (length rest) then TooMany
    else More

-- what is then known of the numbers
abbrev pub FoundFits : ℕ → ℕ → List ℕ → Found → Type 0
FoundFits longest room rest TooLong = 0 < room
FoundFits longest room rest (Line n) = (n < room) × (n < length rest)
FoundFits longest room rest TooMany = Unit {0}
FoundFits longest room rest More = (length rest ≤ room) × (length rest ≤ longest)
