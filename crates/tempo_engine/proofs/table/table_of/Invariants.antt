-- The texts before this one are there, and no two are equal.
use Rattle.std.proofs.Common.{◌≡◌, ◌≢◌, AllPairs, take}
use Rattle.tempo_engine.proofs.table.table_of.Given as goal

abbrev pub invariant-loop-label : goal.invariant-loop-label
invariant-loop-label l = record { so_far : l.texts ≡ take l.label-index l.labels; distinct : AllPairs (λ a b. a ≢ b) l.texts }
