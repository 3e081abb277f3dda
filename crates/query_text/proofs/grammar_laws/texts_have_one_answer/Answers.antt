use Rattle.query_text.proofs.OneReading.{answered, one_answer}
use Rattle.query_text.proofs.grammar_laws.texts_have_one_answer.Goals as goal

pub returns-clause-some : goal.returns-clause-some
returns-clause-some c = λ text. let a = answered text in (a.answer, a.is)

pub returns-clause-one : goal.returns-clause-one
returns-clause-one c = one_answer
