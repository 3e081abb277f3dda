-- what is found, and what will be found of the rest, are all that there is to find
use Rattle.std.proofs.Common.{◌≡◌, ◌++◌, drop}
use Rattle.query_plan.specs.Cuts.{is_cut_column, passing_from}
use Rattle.query_plan.proofs.cut_places.selected.Given as goal

abbrev pub invariant-loop-i : goal.invariant-loop-i
invariant-loop-i l =
    l.places.items ++ passing_from (is_cut_column l.cut) l.i (drop l.i l.items) ≡ passing_from (is_cut_column l.cut) 0 l.items
