use Rattle.std.proofs.Common.{length, ◌-◌, ◌≡◌, ◌≤◌, ◌++◌, ◌+◌, drop}
use Rattle.query_text.specs.Token.{unquoted}
use Rattle.query_text.proofs.cursor.unquoted.Given as goal

abbrev pub invariant-bytes : goal.invariant-bytes
invariant-bytes l = record {
  so_far : l.found.items ++ unquoted (drop l.at l.fn.text) ≡ unquoted l.fn.text;
  within : l.at ≤ length l.fn.text + 1;
}

abbrev pub decreases-bytes : goal.decreases-bytes
decreases-bytes l = length l.bytes + 1 - l.at
