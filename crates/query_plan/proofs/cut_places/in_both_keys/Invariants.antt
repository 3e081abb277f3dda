-- what is found, and what will be found of the rest, are all that there is to find
use Rattle.std.proofs.Common.{◌≡◌, ◌++◌, drop}
use Rattle.query_plan.specs.Cuts.{in_both_keys}
use Rattle.query_plan.proofs.cut_places.in_both_keys.Given as goal

abbrev pub invariant-loop-i : goal.invariant-loop-i
invariant-loop-i l =
    l.places.items ++ in_both_keys (drop l.i l.left_key) (drop l.i l.right_key) l.left l.right
    ≡ in_both_keys l.left_key l.right_key l.left l.right
