use Rattle.std.proofs.Common.{◌≡◌, ◌+◌, take}
use Rattle.ingress.specs.Slices.{edges_of, count_below}
use Rattle.ingress.proofs.list_slices.are_within.Given as goal

abbrev pub invariant-loop-list : goal.invariant-loop-list
invariant-loop-list l = count_below l.to (edges_of (take l.list-index l.lists)) + l.rest ≡ count_below l.from (edges_of (take l.list-index l.lists)) + l.fn.batch
