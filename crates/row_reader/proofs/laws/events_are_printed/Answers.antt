use Rattle.row_reader.proofs.Printed.{events_are_printed}
use Rattle.row_reader.proofs.laws.events_are_printed.Goals as goal

pub returns : goal.returns
returns c = events_are_printed
