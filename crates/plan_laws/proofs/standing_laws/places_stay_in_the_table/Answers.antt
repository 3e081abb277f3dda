use Rattle.plan_laws.proofs.Standing.{placed_of}
use Rattle.plan_laws.proofs.Answers.{answer_placed}
use Rattle.plan_laws.proofs.standing_laws.places_stay_in_the_table.Goals as goal

pub returns-clause-events : goal.returns-clause-events
returns-clause-events c = placed_of

pub returns-clause-answer : goal.returns-clause-answer
returns-clause-answer c = answer_placed
