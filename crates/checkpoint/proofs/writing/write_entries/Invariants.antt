-- What is printed and the lines that are left are those from the place on.
use Rattle.std.proofs.Common.{◌≡◌, ◌≤◌, ◌-◌, ◌++◌, length}
use Rattle.checkpoint.specs.Writing.{ends_left, bytes_of}
use Rattle.checkpoint.proofs.writing.write_entries.Given as goal

abbrev pub invariant-rest : goal.invariant-rest
invariant-rest l =
    (l.out.items ++ bytes_of (ends_left l.frozen l.part l.at) ≡ l.fn.out.items ++ bytes_of (ends_left l.frozen l.part l.entry))
    × (length (ends_left l.frozen l.part l.at) ≤ length (ends_left l.frozen l.part l.entry))

abbrev pub decreases-rest : goal.decreases-rest
decreases-rest l = length l.entries - l.at
