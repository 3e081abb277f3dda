use Rattle.std.proofs.Common.{true}
use Rattle.wire_lines.proofs.CutsFacts.{lines_settled}
use Rattle.wire_lines.proofs.laws.rest_is_last_line.Goals as goal

pub returns : goal.returns
returns c = λ bytes cutter given cuts asked. lines_settled bytes cutter given true cuts (cuts.settled asked).one_line
