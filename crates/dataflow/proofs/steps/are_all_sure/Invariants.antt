-- The lists before this one are sure.
use Rattle.std.proofs.Common.{◌≡◌, ◌<◌, ℕ, true, get_or}
use Rattle.edge_stream.specs.Listing.{EdgeListView}
use Rattle.plan_laws.specs.Places.{EdgesArePlaced}
use Rattle.dataflow.proofs.steps.are_all_sure.Given as goal

abbrev pub invariant-loop-i : goal.invariant-loop-i
invariant-loop-i l = (k : ℕ) (d : EdgeListView) → k < l.i → l.thawed ≡ true → EdgesArePlaced l.texts (get_or l.lists k d).edges
