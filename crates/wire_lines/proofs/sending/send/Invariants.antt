use Rattle.std.proofs.Common.{◌≡◌, length}
use Rattle.wire_lines.specs.Journal.{Grows}
use Rattle.wire_lines.proofs.Growth.{SentBefore}
use Rattle.wire_lines.proofs.sending.send.Given as goal

abbrev pub invariant-loop-rest : goal.invariant-loop-rest
invariant-loop-rest g l =
    Grows (g.W.Wire.journal l.fn.wire) (g.W.Wire.journal l.wire) (SentBefore l.fn.bytes l.rest)
    × (g.W.Wire.write_faults l.wire ≡ g.W.Wire.write_faults l.fn.wire)
    × (g.W.Wire.read_faults l.wire ≡ g.W.Wire.read_faults l.fn.wire)

abbrev pub decreases-loop-rest : goal.decreases-loop-rest
decreases-loop-rest g l = length l.rest
