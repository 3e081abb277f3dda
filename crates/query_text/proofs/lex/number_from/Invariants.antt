use Rattle.std.proofs.Common.{◌≡◌, ◌≤◌, length}
use Rattle.query_text.specs.Words.{decimal_from}
use Rattle.query_text.proofs.lex.number_from.Given as goal

abbrev pub invariant-loop-digits : goal.invariant-loop-digits
invariant-loop-digits l = record {
  whole : decimal_from l.value l.digits ≡ decimal_from l.initial.value l.initial.digits;
  fits : l.value ≤ 9223372036854775807;
}

abbrev pub decreases-loop-digits : goal.decreases-loop-digits
decreases-loop-digits l = length l.digits
