-- The lines that were taken, and those that are left, are all lines.
use Rattle.std.proofs.Common.{◌≡◌, ◌++◌, length}
use Rattle.wire_lines.specs.Lines.{whole}
use Rattle.checkpoint.specs.Taking.{lines_taken}
use Rattle.checkpoint.specs.declared.reading.ReadingStage.TheVariants.{Ended}
use Rattle.tempo_cli.proofs.reading.read_frozen.Given as goal

abbrev pub invariant-lines : goal.invariant-lines
invariant-lines l =
    (l.reader.form ≡ l.fn.form)
    × (l.reader.stage ≡ Ended → ⊥)
    × (whole l.fn.bytes ≡ lines_taken l.reader ++ whole l.rest)

abbrev pub decreases-lines : goal.decreases-lines
decreases-lines l = length l.rest
