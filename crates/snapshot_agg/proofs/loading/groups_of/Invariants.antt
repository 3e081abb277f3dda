use Rattle.std.proofs.Common.{◌≡◌, [], take}
use Rattle.tw_rows.specs.Bag.{SameBag}
use Rattle.sweep_laws.specs.Saving.{rows_of}
use Rattle.snapshot_agg.specs.Counting.{IsCounted}
use Rattle.snapshot_agg.proofs.loading.groups_of.Given as goal

abbrev pub invariant-loop-start : goal.invariant-loop-start
invariant-loop-start l = record {
  key : l.groups.key.items ≡ l.key;
  aggs : l.groups.aggs.items ≡ l.aggs;
  counted : IsCounted l.groups;
  ends : l.groups.rows.rows.ends ≡ [];
  rows : SameBag l.groups.rows.rows.held (rows_of (take l.start-index l.starts));
}
