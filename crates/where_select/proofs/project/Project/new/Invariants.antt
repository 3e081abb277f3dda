-- The kinds of the items so far.
use Rattle.std.proofs.Common.{◌≡◌, map, take}
use Rattle.lane_expr.specs.Kernels.{kind_for, result_kind}
use Rattle.where_select.proofs.project.Project.new.Given as goal

abbrev pub invariant-loop-item : goal.invariant-loop-item
invariant-loop-item l = l.results.items ≡ map (λ k. kind_for (result_kind k)) (take l.item-index l.item-items)
