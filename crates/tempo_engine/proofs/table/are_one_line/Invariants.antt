-- The texts before this one are of one line.
use Rattle.std.proofs.Common.{All, take}
use Rattle.frozen_state.specs.Formed.{IsOneLine}
use Rattle.tempo_engine.proofs.table.are_one_line.Given as goal

abbrev pub invariant-loop-label : goal.invariant-loop-label
invariant-loop-label l = All IsOneLine (take l.label-index l.labels)
