use Rattle.plan_model.proofs.NewLives.{Known-moved, Known-hopped, Known-lasting, Known-extended, Known-in_sessions}
use Rattle.plan_model.proofs.life_laws.lives_are_causal.Goals as goal

pub returns-clause-moved : goal.returns-clause-moved
returns-clause-moved g c = Known-moved

pub returns-clause-hopped : goal.returns-clause-hopped
returns-clause-hopped g c = Known-hopped

pub returns-clause-lasting : goal.returns-clause-lasting
returns-clause-lasting g c = Known-lasting

pub returns-clause-extended : goal.returns-clause-extended
returns-clause-extended g c = Known-extended

pub returns-clause-in_sessions : goal.returns-clause-in_sessions
returns-clause-in_sessions g c = Known-in_sessions
