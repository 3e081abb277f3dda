-- The parts before this one are placed.
use Rattle.std.proofs.Common.{take}
use Rattle.tempo_engine.specs.Named.{PartsArePlaced}
use Rattle.tempo_engine.proofs.named.are_placed.Given as goal

abbrev pub invariant-loop-part : goal.invariant-loop-part
invariant-loop-part l = PartsArePlaced l.texts (take l.part-index l.parts)
