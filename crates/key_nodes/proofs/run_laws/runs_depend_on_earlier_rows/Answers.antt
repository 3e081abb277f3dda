use Rattle.key_nodes.proofs.RunSteps.{runs_known}
use Rattle.key_nodes.proofs.run_laws.runs_depend_on_earlier_rows.Goals as goal

pub returns : goal.returns
returns g c = runs_known
