use Rattle.std.proofs.Common.{◌≡◌, ◌≤◌, ◌+◌, ◌-◌, length, drop, map, option_map}
use Rattle.query_text.specs.Machine.{start}
use Rattle.query_text.specs.Parsing.{place, spot_kind}
use Rattle.query_text.proofs.fault.stop.Given as goal

abbrev pub invariant-words : goal.invariant-words
invariant-words l = record {
  within : l.at ≤ length l.words;
  whole : option_map (λ n. l.at + n) (place l.stack (map spot_kind (drop l.at l.words))) ≡ place start (map spot_kind l.words);
}

abbrev pub decreases-words : goal.decreases-words
decreases-words l = length l.words - l.at
