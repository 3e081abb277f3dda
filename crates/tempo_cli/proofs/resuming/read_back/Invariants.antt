use Rattle.std.proofs.Common.{◌≡◌, []}
use Rattle.wire_lines.specs.Journal.{Grows}
use Rattle.checkpoint.specs.Form.{FormView}
use Rattle.checkpoint.specs.declared.reading.ReadingStage.TheVariants.{Ended}
use Rattle.tempo_cli.specs.Feeding.{WantsBytes}
use Rattle.tempo_cli.specs.Restored.{Reads, Awaits}
use Rattle.tempo_cli.proofs.resuming.read_back.Given as goal

abbrev pub invariant-loop-left : goal.invariant-loop-left
invariant-loop-left g l = record {
  awaits : (form : FormView) → Reads form [] [] l.fn.restoring → Grows (g.W.Wire.journal l.fn.wire) (g.W.Wire.journal l.wire) (Awaits form l.restoring l.left);
  reads : g.W.Wire.read_faults l.wire ≡ g.W.Wire.read_faults l.fn.wire;
  writes : g.W.Wire.write_faults l.wire ≡ g.W.Wire.write_faults l.fn.wire;
  wants : WantsBytes l.restoring.cutter;
  going : l.restoring.reader.stage ≡ Ended → ⊥;
}

abbrev pub decreases-loop-left : goal.decreases-loop-left
decreases-loop-left g l = l.left
