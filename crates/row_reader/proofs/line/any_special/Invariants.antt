use Rattle.std.proofs.Common.{◌≡◌, false, drop}
use Rattle.row_reader.specs.Line.{AreSimple}
use Rattle.row_reader.proofs.line.any_special.Given as goal

abbrev pub invariant-loop-byte : goal.invariant-loop-byte
invariant-loop-byte l = l.found ≡ false → AreSimple (drop l.byte-index l.bytes) → AreSimple l.bytes
