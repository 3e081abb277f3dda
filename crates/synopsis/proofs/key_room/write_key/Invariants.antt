use Rattle.std.proofs.Common.{◌≡◌, ◌≤◌, length, take}
use Rattle.std.specs.Vec.{vec_len, vec_capacity}
use Rattle.synopsis.specs.Held.{key_of}
use Rattle.synopsis.proofs.key_room.write_key.Given as goal

abbrev pub invariant-loop-i : goal.invariant-loop-i
invariant-loop-i l = record {
  len : vec_len l.values ≡ l.i;
  room : length l.columns ≤ vec_capacity l.values;
  items : l.values.items ≡ key_of (take l.i l.columns) l.cells;
}
