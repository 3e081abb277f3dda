-- The times of the edges before this one are kept.
use Rattle.std.proofs.Common.{◌≡◌, take}
use Rattle.tw_rows.specs.Bag.{SameBag}
use Rattle.sweep_laws.specs.Saving.{rows_of}
use Rattle.anti_join.proofs.free_times.FreeTimes.of_starts.Given as goal

abbrev pub invariant-loop-edge : goal.invariant-loop-edge
invariant-loop-edge l = record {
  key : l.times.key ≡ l.key;
  rows : SameBag l.times.rows (rows_of (take l.edge-index l.edges));
}
