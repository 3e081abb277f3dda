-- The stages so far took up their lists.
use Rattle.std.specs.Prelude.{ℕ, map}
use Rattle.std.proofs.Common.{◌≡◌, length}
use Rattle.dataflow.specs.Shards.{RunAll}
use Rattle.dataflow.proofs.Reloading.{LoadsTo}
use Rattle.dataflow.proofs.saving.load_all.Given as goal

abbrev pub invariant-loop-i : goal.invariant-loop-i
invariant-loop-i l = record {
  count : length l.stages.items ≡ length l.fn.stages.items;
  loads : LoadsTo l.plan l.last l.i l.fn.stages.items l.stages.items (map (λ v. v.items) l.saved);
  runs : (workers : ℕ) → RunAll workers l.plan.nodes l.fn.stages.items → RunAll workers l.plan.nodes l.stages.items;
}
