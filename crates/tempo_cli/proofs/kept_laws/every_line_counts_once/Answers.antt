use Rattle.tempo_cli.proofs.Unbroken.{unbroken}
use Rattle.tempo_cli.proofs.kept_laws.every_line_counts_once.Goals as goal

pub returns : goal.returns
returns c = unbroken
