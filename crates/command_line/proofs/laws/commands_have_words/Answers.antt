use Rattle.command_line.proofs.Printed.{printed}
use Rattle.command_line.proofs.laws.commands_have_words.Goals as goal

pub returns : goal.returns
returns c = printed
