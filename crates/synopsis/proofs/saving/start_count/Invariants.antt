-- What was counted, and the starts of the rows that are left, are all starts.
use Rattle.std.proofs.Common.{◌≡◌, ◌≤◌, ◌+◌, ◌-◌, ◌^◌, min, length}
use Rattle.synopsis.specs.Kept.{rows_in}
use Rattle.synopsis.proofs.saving.start_count.Given as goal

abbrev pub invariant-loop-since : goal.invariant-loop-since
invariant-loop-since l = record {
  count : min (l.len + length (rows_in l.since-iterator)) (2 ^ 64 - 1) ≡ min (length (rows_in l.starts.entries)) (2 ^ 64 - 1);
  within : l.len ≤ 2 ^ 64 - 1;
}
