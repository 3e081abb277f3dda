use Rattle.std.proofs.Common.{arith}
use Rattle.plan_model.proofs.Closings.{closes_rise, closes_low, closes_end, left_rises, right_rises}
use Rattle.plan_model.proofs.closing_laws.closings_rise.Goals as goal

pub returns-clause-rise : goal.returns-clause-rise
returns-clause-rise c = λ nodes p q n ordered rise low. closes_rise nodes ordered p q rise low n

pub returns-clause-within : goal.returns-clause-within
returns-clause-within c = λ nodes p n ordered low. closes_low nodes ordered p p (omega arith) low n

pub returns-clause-end : goal.returns-clause-end
returns-clause-end c = λ nodes n ordered. closes_end nodes ordered n

pub returns-clause-left : goal.returns-clause-left
returns-clause-left c = λ nodes p q i n ordered there rise low. left_rises nodes ordered p q rise low i n there

pub returns-clause-right : goal.returns-clause-right
returns-clause-right c = λ nodes p q i n ordered there rise low. right_rises nodes ordered p q rise low i n there
