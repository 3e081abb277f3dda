use Rattle.command_line.proofs.Once.{one_command}
use Rattle.command_line.proofs.laws.words_spell_one_command.Goals as goal

pub returns : goal.returns
returns c = one_command
