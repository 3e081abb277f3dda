use Rattle.std.proofs.Common.{◌≡◌, ◌++◌, take}
use Rattle.synopsis.proofs.buckets.copy_key.Given as goal

abbrev pub invariant-loop-datum : goal.invariant-loop-datum
invariant-loop-datum l = l.owned.items ≡ l.initial.owned.items ++ take l.datum-index l.key
