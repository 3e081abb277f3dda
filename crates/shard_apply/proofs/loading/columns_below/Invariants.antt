-- The columns before this one.
use Rattle.std.proofs.Common.{◌≡◌, ◌≤◌}
use Rattle.std.specs.Prelude.{vec_len, vec_capacity}
use Rattle.std.specs.List.{range_with_len}
use Rattle.shard_apply.proofs.loading.columns_below.Given as goal

abbrev pub invariant-loop-column : goal.invariant-loop-column
invariant-loop-column l = record {
  items : l.columns.items ≡ range_with_len 0 l.column;
  count : vec_len l.columns ≡ l.column;
  room : l.n ≤ vec_capacity l.columns;
}
