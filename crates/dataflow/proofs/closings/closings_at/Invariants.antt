-- There is room for each node, and what was found of the nodes so far are their closings.
use Rattle.std.proofs.Common.{◌≡◌, ℕ, ◌<◌, length, slice_index_or}
use Rattle.tw_rows.specs.Instant.{inf}
use Rattle.plan_model.specs.Meaning.{closes}
use Rattle.dataflow.proofs.closings.closings_at.Given as goal

abbrev pub invariant-loop-i : goal.invariant-loop-i
invariant-loop-i l = record {
  room : length l.closings ≡ 256;
  found : (j : ℕ) → j < l.i → slice_index_or l.closings j inf ≡ closes l.plan.nodes j l.p;
}
