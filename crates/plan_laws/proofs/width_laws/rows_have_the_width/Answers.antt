use Rattle.plan_laws.proofs.Widths.{events_wide, snapshots_wide}
use Rattle.plan_laws.proofs.width_laws.rows_have_the_width.Goals as goal

pub returns-clause-events : goal.returns-clause-events
returns-clause-events c = events_wide

pub returns-clause-instants : goal.returns-clause-instants
returns-clause-instants c = snapshots_wide
