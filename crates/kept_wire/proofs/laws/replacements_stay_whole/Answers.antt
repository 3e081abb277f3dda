use Rattle.kept_wire.proofs.InARow.{in_a_row}
use Rattle.kept_wire.proofs.laws.replacements_stay_whole.Goals as goal

pub returns : goal.returns
returns c = in_a_row
