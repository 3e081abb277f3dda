-- The edges before this one pass.
use Rattle.std.proofs.Common.{◌≡◌, true, take}
use Rattle.std.specs.List.{list_all}
use Rattle.sweep_sides.specs.Answers.{is_between}
use Rattle.sweep_sides.proofs.answer.come_between.Given as goal

abbrev pub invariant-loop-edge : goal.invariant-loop-edge
invariant-loop-edge l = list_all (is_between l.from l.to) (take l.edge-index l.edges) ≡ true
