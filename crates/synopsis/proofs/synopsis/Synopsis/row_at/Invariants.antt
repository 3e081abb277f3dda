use Rattle.std.proofs.Common.{◌≡◌, ◌<◌, length, drop, slice_get}
use Rattle.synopsis.specs.Buckets.{rows_in}
use Rattle.synopsis.proofs.synopsis.Synopsis.row_at.Given as goal

abbrev pub invariant-loop-k : goal.invariant-loop-k
invariant-loop-k l = record {
  within : l.left < length (rows_in (drop l.k l.self-inside.buckets.entries));
  same : slice_get (rows_in (drop l.k l.self-inside.buckets.entries)) l.left ≡ slice_get (rows_in l.self-inside.buckets.entries) l.i;
}
