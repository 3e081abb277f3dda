-- The parts before this one have their forms.
use Rattle.std.proofs.Common.{take}
use Rattle.frozen_state.specs.Formed.{ArePartsOf}
use Rattle.tempo_engine.proofs.stored.are_stored.Given as goal

abbrev pub invariant-loop-i : goal.invariant-loop-i
invariant-loop-i l = ArePartsOf (take l.i l.forms) (take l.i l.parts)
