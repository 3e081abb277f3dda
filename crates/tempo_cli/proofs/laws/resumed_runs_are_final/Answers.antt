use Rattle.tempo_cli.proofs.Behind.{resumed_final}
use Rattle.tempo_cli.proofs.laws.resumed_runs_are_final.Goals as goal

pub returns : goal.returns
returns c = resumed_final
