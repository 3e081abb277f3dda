use Rattle.std.proofs.Common.{◌∙◌}
use Rattle.clap.specs.Words.{found_of}
use Rattle.command_line.proofs.Clash.{said}
use Rattle.command_line.proofs.words.stands.Goals as goal

pub returns : goal.returns
returns c = c.is_said.ensures ∙ said (found_of c.args.matches.now) c.args.name.now c.value_source.result c.value_source.ensures
