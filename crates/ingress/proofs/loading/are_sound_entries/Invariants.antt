use Rattle.std.proofs.Common.{take}
use Rattle.std.specs.Prelude.{All}
use Rattle.ingress.specs.Saving.{IsSoundEntry}
use Rattle.ingress.specs.Loaded.{cells_of_kinds}
use Rattle.ingress.proofs.loading.are_sound_entries.Given as goal

abbrev pub invariant-loop-entry : goal.invariant-loop-entry
invariant-loop-entry l = All (IsSoundEntry (cells_of_kinds l.kinds) l.last) (take l.entry-index l.entries)
