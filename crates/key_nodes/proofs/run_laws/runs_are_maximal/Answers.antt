use Rattle.key_nodes.proofs.Maximal.{runs_falling, runs_maximal}
use Rattle.key_nodes.proofs.run_laws.runs_are_maximal.Goals as goal

pub returns-clause-falling : goal.returns-clause-falling
returns-clause-falling g c = runs_falling

pub returns-clause-apart : goal.returns-clause-apart
returns-clause-apart g c = runs_maximal
