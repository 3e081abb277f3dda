use Rattle.query_text.proofs.Between.{falls, only_falls}
use Rattle.query_text.proofs.word_laws.texts_fall_into_words.Goals as goal

pub returns-clause-falls : goal.returns-clause-falls
returns-clause-falls c = falls

pub returns-clause-only : goal.returns-clause-only
returns-clause-only c = only_falls
