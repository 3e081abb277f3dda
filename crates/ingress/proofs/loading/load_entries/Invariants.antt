use Rattle.std.proofs.Common.{◌≡◌, length, take}
use Rattle.ingress.specs.Loaded.{LoadsAll}
use Rattle.ingress.proofs.loading.load_entries.Given as goal

abbrev pub invariant-loop-entry : goal.invariant-loop-entry
invariant-loop-entry l = record {
  loads : LoadsAll (length l.kinds) l.entries (take l.entry-index l.entries) l.held;
  long : length l.held.waiting.items ≡ length l.kinds;
}
