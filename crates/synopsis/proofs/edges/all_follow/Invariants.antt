-- The edges before this one may all follow.
use Rattle.std.specs.Prelude.{◌≡◌, true, take}
use Rattle.std.specs.List.{list_all}
use Rattle.synopsis.specs.Holding.{may_follow}
use Rattle.synopsis.proofs.edges.all_follow.Given as goal

abbrev pub invariant-loop-edge : goal.invariant-loop-edge
invariant-loop-edge l = list_all (may_follow l.one) (take l.edge-index l.edges) ≡ true
