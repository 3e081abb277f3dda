use Rattle.checkpoint.proofs.Short.{text_is_short}
use Rattle.checkpoint.proofs.laws.lines_are_short.Goals as goal

pub returns : goal.returns
returns c = text_is_short
