use Rattle.std.proofs.Common.{◌≡◌, ◌≤◌, ◌+◌, ◌-◌, length, drop, map, option_map}
use Rattle.query_text.specs.Parsing.{first_long, spot_kind}
use Rattle.query_text.proofs.fault.long_at.Given as goal

abbrev pub invariant-words : goal.invariant-words
invariant-words l = record {
  within : l.at ≤ length l.words;
  short : l.run ≤ 200;
  whole : option_map (λ n. l.at + n) (first_long l.run (map spot_kind (drop l.at l.words))) ≡ first_long 0 (map spot_kind l.words);
}

abbrev pub decreases-words : goal.decreases-words
decreases-words l = length l.words - l.at
