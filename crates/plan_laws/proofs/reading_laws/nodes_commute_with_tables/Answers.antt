use Rattle.plan_laws.proofs.Places.{place_law, node_placed}
use Rattle.plan_laws.proofs.Standing.{undefined_law, undefined_of_edges}
use Rattle.plan_laws.proofs.reading_laws.nodes_commute_with_tables.Goals as goal

pub returns-clause-events : goal.returns-clause-events
returns-clause-events c = place_law

pub returns-clause-placed : goal.returns-clause-placed
returns-clause-placed c = node_placed

pub returns-clause-undefined : goal.returns-clause-undefined
returns-clause-undefined c = undefined_law

pub returns-clause-undefined_edges : goal.returns-clause-undefined_edges
returns-clause-undefined_edges c = undefined_of_edges
