-- What was counted, and the rows that are left, are all rows.
use Rattle.std.proofs.Common.{◌≡◌, ◌≤◌, ◌+◌, ◌-◌, ◌^◌, min, length}
use Rattle.outer_top.specs.Ranks.{rows_in}
use Rattle.outer_top.proofs.groups.row_count.Given as goal

abbrev pub invariant-loop-group : goal.invariant-loop-group
invariant-loop-group l = record {
  count : min (l.len + length (rows_in l.group-iterator)) (2 ^ 64 - 1) ≡ min (length (rows_in l.groups.entries)) (2 ^ 64 - 1);
  within : l.len ≤ 2 ^ 64 - 1;
}
