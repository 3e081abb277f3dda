-- The stages so far saved their lists.
use Rattle.std.specs.Prelude.{map}
use Rattle.std.proofs.Common.{◌≡◌, length}
use Rattle.dataflow.proofs.Reloading.{SavesTo}
use Rattle.dataflow.proofs.saving.save_all.Given as goal

abbrev pub invariant-loop-i : goal.invariant-loop-i
invariant-loop-i l = record {
  count : length l.saved.items ≡ l.i;
  saves : SavesTo l.i l.stages (map (λ v. v.items) l.saved.items);
}
