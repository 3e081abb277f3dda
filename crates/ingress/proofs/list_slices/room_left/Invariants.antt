use Rattle.std.proofs.Common.{◌≡◌, ◌+◌, length}
use Rattle.ingress.specs.Slices.{count_below}
use Rattle.ingress.proofs.list_slices.room_left.Given as goal

abbrev pub invariant-edges : goal.invariant-edges
invariant-edges l =
    count_below l.to l.fn.list.edges + l.rest + count_below l.from l.cursor.edges ≡ count_below l.from l.fn.list.edges + l.fn.room + count_below l.to l.cursor.edges

abbrev pub decreases-edges : goal.decreases-edges
decreases-edges l = length l.cursor.edges
