use Rattle.query_text.proofs.Taken.{word_front, longest_front, bad_front}
use Rattle.query_text.proofs.word_laws.words_are_longest.Goals as goal

pub returns-clause-word : goal.returns-clause-word
returns-clause-word c = word_front

pub returns-clause-longest : goal.returns-clause-longest
returns-clause-longest c = longest_front

pub returns-clause-bad : goal.returns-clause-bad
returns-clause-bad c = bad_front
