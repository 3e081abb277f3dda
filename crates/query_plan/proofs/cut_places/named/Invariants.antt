-- what is found, and what will be found of the rest, are all that there is to find
use Rattle.std.proofs.Common.{◌≡◌, ◌++◌, drop}
use Rattle.query_plan.specs.Cuts.{is_among, passing_from}
use Rattle.query_plan.proofs.cut_places.named.Given as goal

abbrev pub invariant-loop-i : goal.invariant-loop-i
invariant-loop-i l =
    l.places.items ++ passing_from (is_among l.cut) l.i (drop l.i l.key) ≡ passing_from (is_among l.cut) 0 l.key
