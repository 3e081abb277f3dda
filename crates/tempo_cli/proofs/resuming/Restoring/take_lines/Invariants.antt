use Rattle.std.proofs.Common.{◌≡◌, List, ℕ, length}
use Rattle.checkpoint.specs.declared.reading.ReadingStage.TheVariants.{Ended}
use Rattle.tempo_cli.specs.Restoring.{AreFront}
use Rattle.tempo_cli.specs.Restored.{Reads, WhateverTaken}
use Rattle.tempo_cli.proofs.resuming.Restoring.take_lines.Given as goal

abbrev pub invariant-loop-frozen : goal.invariant-loop-frozen
invariant-loop-frozen l = record {
  longest : l.self.cutter.longest ≡ 65536;
  going : l.self.reader.stage ≡ Ended → ⊥;
  reads : WhateverTaken l.fn.self (λ form bytes given. (more : List (List ℕ)) × AreFront given more × Reads form bytes more l.self);
}

abbrev pub decreases-loop-frozen : goal.decreases-loop-frozen
decreases-loop-frozen l = length l.self.cutter.rest
