-- the columns of the nodes so far are found, and each of these nodes has one
use Rattle.std.proofs.Common.{◌≡◌, ◌<◌, ℕ, None, [], length, slice_index_or}
use Rattle.plan_laws.specs.Undefined.{first_below}
use Rattle.query_plan.specs.Cuts.{cut_places, is_uncut}
use Rattle.query_plan.proofs.choosing.first_uncut.Given as goal

abbrev pub invariant-loop-i : goal.invariant-loop-i
invariant-loop-i l = record {
  counted : length l.done.items ≡ l.i;
  found : (k : ℕ) → k < l.i → slice_index_or l.done.items k [] ≡ cut_places l.plan l.columns k;
  none : first_below (is_uncut l.plan l.columns) l.i ≡ None;
}
