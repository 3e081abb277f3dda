-- The parts before this one are those of the forms.
use Rattle.std.proofs.Common.{take}
use Rattle.tempo_engine.specs.Named.{AreNamed}
use Rattle.tempo_engine.proofs.named.are_named.Given as goal

abbrev pub invariant-loop-i : goal.invariant-loop-i
invariant-loop-i l = AreNamed (take l.i l.forms) (take l.i l.parts)
