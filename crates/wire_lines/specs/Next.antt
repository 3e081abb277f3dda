-- The next line of a cutter, and the cutter after it.
use Rattle.std.specs.Prelude.{◌+◌, ◌-◌, take, drop, true, false}
use Rattle.wire_lines.specs.Cutter.{CutterState, Next, Given, Overlong, Overfull, Wanting}
use Rattle.wire_lines.specs.Found.{found}
use Rattle.wire_lines.specs.declared.cutter.Found.{Found}
use Rattle.wire_lines.specs.declared.cutter.Found.TheVariants.{TooLong, Line, TooMany, More}

-- the answer for what stands next; numbers count from 1
abbrev pub next_of : CutterState → Found → Next
next_of s TooLong = Overlong (s.number + 1)
next_of s (Line n) = Given (s.number + 1) (take n s.rest)
next_of s TooMany = Overfull
next_of s More = Wanting

-- the next answer of a cutter
abbrev pub next : CutterState → Next
next s = next_of s (found s.longest (s.total - s.passed) s.rest)

-- a line that is given leaves the rest, with its LF; a refusal leaves all; after a wish for more bytes it wants them
abbrev pub after_found : CutterState → Found → CutterState
after_found s TooLong = record s { wants_bytes = false }
after_found s (Line n) = record s { passed = s.passed + (n + 1); number = s.number + 1; rest = drop (n + 1) s.rest; wants_bytes = false }
after_found s TooMany = record s { wants_bytes = false }
after_found s More = record s { wants_bytes = true }

-- the cutter after its next answer
abbrev pub after_next : CutterState → CutterState
after_next s = after_found s (found s.longest (s.total - s.passed) s.rest)
