use Rattle.plan_laws.proofs.Bound.{carried_bound}
use Rattle.plan_laws.proofs.Lives.{lives_first, lives_longer, lives_ahead, lives_rows}
use Rattle.plan_laws.proofs.life_laws.lives_are_told_at_their_starts.Goals as goal

pub returns-clause-first : goal.returns-clause-first
returns-clause-first c = lives_first

pub returns-clause-longer : goal.returns-clause-longer
returns-clause-longer c = lives_longer

pub returns-clause-ahead : goal.returns-clause-ahead
returns-clause-ahead c = lives_ahead

pub returns-clause-rows : goal.returns-clause-rows
returns-clause-rows c = lives_rows

pub returns-clause-held : goal.returns-clause-held
returns-clause-held c = carried_bound
