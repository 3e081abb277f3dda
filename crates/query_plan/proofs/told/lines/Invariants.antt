-- the lines so far, and those of the choices that are left, are those of all choices
use Rattle.std.proofs.Common.{◌≡◌, ◌++◌, drop, flat_map}
use Rattle.query_plan.specs.Told.{cut_line}
use Rattle.query_plan.proofs.told.lines.Given as goal

abbrev pub invariant-loop-columns : goal.invariant-loop-columns
invariant-loop-columns l =
    l.out.items ++ flat_map (cut_line l.plan) (drop l.columns-index l.found) ≡ flat_map (cut_line l.plan) l.found
