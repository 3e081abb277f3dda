-- So many bits as are no longer left are there, and those that are left have room.
use Rattle.std.proofs.Common.{◌≡◌, ◌-◌, ◌≤◌, ◌++◌, true}
use Rattle.std.specs.Prelude.{replicate}
use Rattle.occupancy.proofs.Occupancy.push_set.Given as goal

abbrev pub invariant-words : goal.invariant-words
invariant-words l = record {
  few : l.left ≤ l.fn.count;
  items : l.self.items ≡ l.fn.self.items ++ replicate (l.fn.count - l.left) true;
  capacity : l.self.capacity ≡ l.fn.self.capacity;
}

abbrev pub decreases-words : goal.decreases-words
decreases-words l = l.left

abbrev pub invariant-bits : goal.invariant-bits
invariant-bits l = record {
  few : l.left ≤ l.fn.count;
  items : l.self.items ≡ l.fn.self.items ++ replicate (l.fn.count - l.left) true;
  capacity : l.self.capacity ≡ l.fn.self.capacity;
}

abbrev pub decreases-bits : goal.decreases-bits
decreases-bits l = l.left
