use Rattle.std.proofs.Common.{◌≡◌, ◌≤◌, ◌-◌, length, drop}
use Rattle.query_text.specs.Words.{quoted_rest}
use Rattle.query_text.proofs.Quoted.{onwards}
use Rattle.query_text.proofs.lex.quoted_rest.Given as goal

abbrev pub invariant-bytes : goal.invariant-bytes
invariant-bytes l = record {
  within : l.at ≤ length l.bytes;
  whole : onwards l.at (quoted_rest (drop l.at l.bytes)) ≡ quoted_rest l.bytes;
}

abbrev pub decreases-bytes : goal.decreases-bytes
decreases-bytes l = length l.bytes - l.at
