use Rattle.std.proofs.Common.{◌≡◌, ◌++◌, map}
use Rattle.ingress.specs.Keeping.{opens_in}
use Rattle.ingress.specs.Loaded.{entry_of_open}
use Rattle.ingress.proofs.opens.OpenStarts.save.Given as goal

abbrev pub invariant-loop-key : goal.invariant-loop-key
invariant-loop-key l = l.saved ++ map entry_of_open (opens_in l.key-iterator) ≡ l.fn.saved ++ map entry_of_open (opens_in l.self.starts.entries)
