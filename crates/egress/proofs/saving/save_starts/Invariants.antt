-- The entries so far are those that were there, and those of the starts before this one.
use Rattle.std.proofs.Common.{◌≡◌, ◌++◌, map, take}
use Rattle.egress.specs.Saved.{entry_at}
use Rattle.egress.proofs.saving.save_starts.Given as goal

abbrev pub invariant-loop-i : goal.invariant-loop-i
invariant-loop-i l = l.saved ≡ l.fn.saved ++ map (entry_at l.last l.cells) (take l.i l.since.items)
