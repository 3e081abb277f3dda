use Rattle.std.proofs.Common.{◌≡◌, ◌++◌, map, take}
use Rattle.ingress.specs.Keeping.{cell_open}
use Rattle.ingress.specs.Loaded.{entry_of_open}
use Rattle.ingress.proofs.saving.save_starts.Given as goal

abbrev pub invariant-loop-i : goal.invariant-loop-i
invariant-loop-i l = l.saved ≡ l.fn.saved ++ map entry_of_open (map (cell_open l.key) (take l.i l.starts.items))
