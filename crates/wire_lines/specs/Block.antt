-- Lines that a cutter gives together.
use Rattle.std.specs.Prelude.{◌≡◌, ℕ, zero, suc, ◌+◌, ◌-◌, min, List, [], ◌∷◌, length, take}
use Rattle.wire_lines.specs.Lines.{whole}
use Rattle.wire_lines.specs.Cutter.{CutterState, Given}
use Rattle.wire_lines.specs.Next.{next, after_next}

-- the lines that an LF ends among the next bytes, as many bytes as the longest line has with its LF, and none beyond what the input may have:
-- of a rest `ab`, LF, LF, `c`, LF where a line has 3 bytes at most, the line `ab` and the empty one
abbrev pub block_lines : CutterState → List (List ℕ)
block_lines s = whole (take (min (s.longest + 1) (s.total - s.passed)) s.rest)

-- the cutter after so many answers of `next_line`
abbrev pub after_answers : ℕ → CutterState → CutterState
after_answers zero s = s
after_answers (suc n) s = after_answers n (after_next s)

-- the cutter after a block: it has given each of the lines, and where there is none it is as it was
abbrev pub after_block : CutterState → CutterState
after_block s = after_answers (length (block_lines s)) s

-- the next answers of `next_line` are these lines: of `ab`, LF, `c` the line `ab`
abbrev pub GivesLines : CutterState → List (List ℕ) → Type 0
GivesLines s [] = Unit {0}
GivesLines s (line ∷ more) = (next s ≡ Given (s.number + 1) line) × GivesLines (after_next s) more
