-- The texts before this place are there.
use Rattle.std.proofs.Common.{◌≡◌, take}
use Rattle.tempo_engine.proofs.table.labels_of.Given as goal

abbrev pub invariant-loop-place : goal.invariant-loop-place
invariant-loop-place l = l.labels.items ≡ take l.place l.texts
