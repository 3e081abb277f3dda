use Rattle.plan_laws.proofs.Standing.{rows_standing, cells_standing, undefined_standing}
use Rattle.plan_laws.proofs.standing_laws.standing_edges_show_the_rows.Goals as goal

pub returns-clause-rows : goal.returns-clause-rows
returns-clause-rows c = rows_standing

pub returns-clause-cells : goal.returns-clause-cells
returns-clause-cells c = cells_standing

pub returns-clause-undefined : goal.returns-clause-undefined
returns-clause-undefined c = undefined_standing
