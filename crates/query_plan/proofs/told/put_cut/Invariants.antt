-- what is written, and the streams that are left, are what there is to write
use Rattle.std.proofs.Common.{◌≡◌, ◌++◌, drop}
use Rattle.query_plan.specs.Told.{stream_cuts}
use Rattle.query_plan.proofs.told.put_cut.Given as goal

abbrev pub invariant-loop-i : goal.invariant-loop-i
invariant-loop-i l =
    l.out.items ++ stream_cuts l.i (drop l.i l.plan.streams) l.columns
    ≡ l.initial.out.items ++ stream_cuts 0 l.plan.streams l.columns
