use Rattle.plan_laws.proofs.Reading.{node_read, undefined_read}
use Rattle.plan_laws.proofs.reading_laws.nodes_commute_with_readings.Goals as goal

pub returns-clause-events : goal.returns-clause-events
returns-clause-events g c = node_read

pub returns-clause-undefined : goal.returns-clause-undefined
returns-clause-undefined g c = undefined_read
