use Rattle.key_nodes.proofs.RunSteps.{runs_valid}
use Rattle.key_nodes.proofs.run_laws.runs_have_lives.Goals as goal

pub returns : goal.returns
returns g c = runs_valid
