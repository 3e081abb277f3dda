-- The kinds so far.
use Rattle.std.proofs.Common.{◌≡◌, map, take}
use Rattle.tw_rows.specs.Kinds.{cell_kind_of}
use Rattle.lane_expr.proofs.compile.cell_kinds.Given as goal

abbrev pub invariant-loop-kind : goal.invariant-loop-kind
invariant-loop-kind l = l.cells.items ≡ map cell_kind_of (take l.kind-index l.kinds)
