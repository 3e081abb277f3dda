use Rattle.std.proofs.Common.{arith, ap, ◌∙◌, sym, length-drop, ◌++◌}
use Rattle.query_text.specs.Words.{words_of}
use Rattle.query_text.proofs.Skips.{space_at, word_at, more_words, all_words}
use Rattle.query_text.proofs.lex.words.Goals as goal

pub returns : goal.returns
returns c = all_words c.words.at c.as_bytes-bytes.result.now c.words.spots.items _ (omega arith) (omega arith) c.words.invariant.words ∙ ap words_of c.as_bytes-bytes.ensures.value

pub words-preserved-then-is_space : goal.words-preserved-then-is_space
words-preserved-then-is_space c = record { within = omega arith; words = ap (λ z. c.words.spots.items ++ z) (sym (space_at c.words.at c.as_bytes-bytes.result.now 0 c.words-test.true (sym c.if-is_space.ensures))) ∙ c.words.invariant.words }

pub words-preserved : goal.words-preserved
words-preserved c = record {
  within = omega (arith, length-drop c.words.at c.as_bytes-bytes.result.now, c.front-word.ensures.fits.1);
  words =
      more_words c.words.spots.items _ _ _ _ c.in_ok-push.ensures.items (word_at c.words.at c.front-word.result 0 c.as_bytes-bytes.result.now c.words-test.true (sym c.if-is_space.ensures) c.front-word.ensures.which c.front-word.ensures.fits.0 c.front-word.ensures.fits.1) ∙ c.words.invariant.words;
}
