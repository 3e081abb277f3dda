use Rattle.query_text.proofs.Taken.{front_taken, only_taken}
use Rattle.query_text.proofs.word_laws.one_word_is_taken.Goals as goal

pub returns-clause-taken : goal.returns-clause-taken
returns-clause-taken c = front_taken

pub returns-clause-only : goal.returns-clause-only
returns-clause-only c = only_taken
