-- Where nothing was found, the line is simple if it is behind the blocks so far, and its last block is.
use Rattle.std.proofs.Common.{◌≡◌, ◌*◌, ◌-◌, false, drop, length}
use Rattle.row_reader.specs.Line.{AreSimple}
use Rattle.row_reader.proofs.line.has_special.Given as goal

abbrev pub invariant-loop-i : goal.invariant-loop-i
invariant-loop-i l = record {
  blocks : l.found ≡ false → AreSimple (drop (l.i * 16) l.line) → AreSimple l.line;
  last : l.found ≡ false → AreSimple (drop (length l.line - 16) l.line);
}
