use Rattle.tempo_cli.proofs.Recovering.{recovered}
use Rattle.tempo_cli.proofs.kept_laws.every_crash_is_recovered.Goals as goal

pub returns : goal.returns
returns c = recovered
