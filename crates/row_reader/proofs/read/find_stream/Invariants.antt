use Rattle.std.proofs.Common.{◌≡◌, drop}
use Rattle.row_reader.specs.Entry.{named}
use Rattle.row_reader.proofs.read.find_stream.Given as goal

abbrev pub invariant-loop-i : goal.invariant-loop-i
invariant-loop-i l = named 0 l.streams l.name ≡ named l.i (drop l.i l.streams) l.name
