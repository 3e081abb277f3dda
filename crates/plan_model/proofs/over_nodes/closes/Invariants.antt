-- There is room for each node, and what was found of the nodes so far is theirs.
use Rattle.std.proofs.Common.{◌≡◌, ℕ, ◌<◌, length, slice_index_or}
use Rattle.tw_rows.specs.Instant.{inf}
use Rattle.plan_model.specs.Meaning.{closes}
use Rattle.plan_model.proofs.over_nodes.closes.Given as goal

abbrev pub invariant-loop-i : goal.invariant-loop-i
invariant-loop-i l = (length l.done ≡ 256) × ((j : ℕ) → j < l.i → slice_index_or l.done j inf ≡ closes l.plan.nodes j l.p)
