-- How many of the kinds so far are stored so.
use Rattle.std.proofs.Common.{◌≡◌, ◌≤◌, map, take}
use Rattle.tw_rows.specs.Kinds.{cell_kind_of}
use Rattle.where_select.specs.Projects.{many}
use Rattle.where_select.proofs.project.count_of.Given as goal

abbrev pub invariant-loop-kind : goal.invariant-loop-kind
invariant-loop-kind l = record {
  many : l.count ≡ many l.stored (map cell_kind_of (take l.kind-index l.kinds));
  few : l.count ≤ l.kind-index;
}
