use Rattle.std.proofs.Common.{◌≡◌, ℕ, length}
use Rattle.tw_rows.specs.declared.edge.Edge.{Edge}
use Rattle.sweep_sides.specs.Ends.{weight, HaveStarts}
use Rattle.sweep_sides.proofs.taking.release.Given as goal

abbrev pub invariant-loop-end : goal.invariant-loop-end
invariant-loop-end l = record {
  starts : HaveStarts l.due.items l.ends;
  parts : (w : Edge → ℕ) → weight w l.due.items l.ends l.waited.items ≡ weight w l.fn.due.items l.fn.ends l.fn.waited.items;
}

abbrev pub decreases-loop-end : goal.decreases-loop-end
decreases-loop-end l = length l.ends
