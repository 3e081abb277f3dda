-- The bits before this one are there.
use Rattle.std.proofs.Common.{◌≡◌, ◌++◌, take}
use Rattle.batch.proofs.columns.extend_bits.Given as goal

abbrev pub invariant-loop-i : goal.invariant-loop-i
invariant-loop-i l = record {
  items : l.bits.items ≡ l.fn.bits.items ++ take l.i l.from.items;
  capacity : l.bits.capacity ≡ l.fn.bits.capacity;
}
