use Rattle.tempo_cli.proofs.Jobs.{complete_resumed}
use Rattle.tempo_cli.proofs.laws.runs_are_complete.Goals as goal

pub returns-clause-resumed : goal.returns-clause-resumed
returns-clause-resumed c = complete_resumed
