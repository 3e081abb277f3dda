-- There is room for each node, and what was found of the nodes so far is theirs.
use Rattle.std.proofs.Common.{◌≡◌, ℕ, ◌<◌, true, length, slice_index_or}
use Rattle.plan_model.specs.Reach.{event_level}
use Rattle.plan_model.proofs.over_nodes.event_level.Given as goal

abbrev pub invariant-loop-i : goal.invariant-loop-i
invariant-loop-i l = (length l.done ≡ 256) × ((j : ℕ) → j < l.i → slice_index_or l.done j true ≡ event_level l.plan.nodes j)
