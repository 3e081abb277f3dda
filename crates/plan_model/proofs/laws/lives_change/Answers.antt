use Rattle.plan_model.proofs.NewLives.{moved_one-is, moved_one-none, hopped_one-is, lasting_one-is, extended_one-is, floor_to-is}
use Rattle.plan_model.proofs.laws.lives_change.Goals as goal

pub returns-clause-moved : goal.returns-clause-moved
returns-clause-moved c = λ by e life low. moved_one-is by e life low

pub returns-clause-moved_past : goal.returns-clause-moved_past
returns-clause-moved_past c = λ by e late. moved_one-none by e late

pub returns-clause-hopped : goal.returns-clause-hopped
returns-clause-hopped c = λ size period e sized low. hopped_one-is size period e sized low

pub returns-clause-lasting : goal.returns-clause-lasting
returns-clause-lasting c = λ by e sized low. lasting_one-is by e sized low

pub returns-clause-extended : goal.returns-clause-extended
returns-clause-extended c = λ by e life high. extended_one-is by e life high

pub returns-clause-multiple : goal.returns-clause-multiple
returns-clause-multiple c = λ period t positive low. floor_to-is period t positive low
