-- what is found, and what will be found of the rest, are all that there is to find
use Rattle.std.proofs.Common.{◌≡◌, ◌++◌, drop, filter}
use Rattle.query_plan.specs.Cuts.{is_among}
use Rattle.query_plan.proofs.cut_places.kept.Given as goal

abbrev pub invariant-loop-column : goal.invariant-loop-column
invariant-loop-column l = l.places.items ++ filter (is_among l.cut) (drop l.column-index l.columns) ≡ filter (is_among l.cut) l.columns
