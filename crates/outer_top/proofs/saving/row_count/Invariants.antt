-- What was counted, and the rows that are left, are all rows.
use Rattle.std.proofs.Common.{◌≡◌, ◌≤◌, ◌+◌, ◌-◌, ◌^◌, min, length}
use Rattle.outer_top.specs.TopKeys.{kept_rows}
use Rattle.outer_top.proofs.saving.row_count.Given as goal

abbrev pub invariant-loop-ranked : goal.invariant-loop-ranked
invariant-loop-ranked l = record {
  count : min (l.len + length (kept_rows l.ranked-iterator)) (2 ^ 64 - 1) ≡ min (length (kept_rows l.keys.entries)) (2 ^ 64 - 1);
  within : l.len ≤ 2 ^ 64 - 1;
}
