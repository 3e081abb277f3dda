-- what is found, and what will be found of the rest, are all that there is to find
use Rattle.std.proofs.Common.{◌≡◌, ◌+◌, ◌++◌, ◌&&◌, not, nat_lt, drop, filter}
use Rattle.query_plan.specs.Cuts.{is_among}
use Rattle.query_plan.proofs.cut_places.left_by_mean.Given as goal

abbrev pub invariant-loop-place : goal.invariant-loop-place
invariant-loop-place l =
    l.places.items ++ filter (λ place. not (is_among l.at place) && nat_lt (place + 1) l.width) (drop l.place-index l.cut)
    ≡ filter (λ place. not (is_among l.at place) && nat_lt (place + 1) l.width) l.cut
