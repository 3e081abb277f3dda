use Rattle.tempo_cli.proofs.Feeds.{read_back}
use Rattle.tempo_cli.proofs.kept_laws.what_is_kept_is_read_back.Goals as goal

pub returns : goal.returns
returns c = read_back
