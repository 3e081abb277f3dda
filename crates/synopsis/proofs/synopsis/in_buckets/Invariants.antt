use Rattle.std.proofs.Common.{◌≡◌, ℕ, take}
use Rattle.tw_rows.specs.Bag.{total}
use Rattle.tw_rows.specs.declared.edge.HeldRow.{HeldRow}
use Rattle.synopsis.specs.Buckets.{rows_in, AreKeyed}
use Rattle.synopsis.proofs.synopsis.in_buckets.Given as goal

abbrev pub invariant-loop-row : goal.invariant-loop-row
invariant-loop-row l = record {
  rows : (w : HeldRow → ℕ) → total w (rows_in l.buckets.entries) ≡ total w (take l.row-index l.rows);
  keyed : AreKeyed l.initial.key.columns l.buckets.entries;
  columns : l.key.columns ≡ l.initial.key.columns;
}
