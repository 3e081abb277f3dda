use Rattle.std.proofs.Common.{length, ◌-◌, ◌≡◌, ◌≤◌, ◌++◌, drop}
use Rattle.query_text.specs.Words.{words_from, words_of}
use Rattle.query_text.proofs.lex.words.Given as goal

abbrev pub invariant-words : goal.invariant-words
invariant-words l = record {
  within : l.at ≤ length l.bytes;
  words : l.spots.items ++ words_from l.at 0 (drop l.at l.bytes) ≡ words_of l.bytes;
}

abbrev pub decreases-words : goal.decreases-words
decreases-words l = length l.bytes - l.at
