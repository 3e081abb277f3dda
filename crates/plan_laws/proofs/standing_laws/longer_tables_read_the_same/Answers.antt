use Rattle.plan_laws.proofs.Standing.{read_longer, placed_longer, stands_longer}
use Rattle.plan_laws.proofs.standing_laws.longer_tables_read_the_same.Goals as goal

pub returns-clause-events : goal.returns-clause-events
returns-clause-events c = read_longer

pub returns-clause-placed : goal.returns-clause-placed
returns-clause-placed c = placed_longer

pub returns-clause-stands : goal.returns-clause-stands
returns-clause-stands c = stands_longer
