use Rattle.key_nodes.proofs.RunSteps.{runs_alive}
use Rattle.key_nodes.proofs.run_laws.runs_have_the_rows.Goals as goal

pub returns : goal.returns
returns g c = runs_alive
