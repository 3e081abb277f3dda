use Rattle.query_text.proofs.Taken.{one_word, has_form, alone}
use Rattle.query_text.proofs.word_laws.bytes_are_one_word.Goals as goal

pub returns-clause-one : goal.returns-clause-one
returns-clause-one c = one_word

pub returns-clause-form : goal.returns-clause-form
returns-clause-form c = has_form

pub returns-clause-alone : goal.returns-clause-alone
returns-clause-alone c = alone
