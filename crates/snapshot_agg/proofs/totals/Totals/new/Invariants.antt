use Rattle.std.proofs.Common.{take, []}
use Rattle.snapshot_agg.specs.States.{AreStatesOf}
use Rattle.snapshot_agg.proofs.totals.Totals.new.Given as goal

abbrev pub invariant-loop-agg : goal.invariant-loop-agg
invariant-loop-agg l = AreStatesOf l.states.items (take l.agg-index l.aggs) []
