use Rattle.command_line.proofs.Spelled.{spelled}
use Rattle.command_line.proofs.laws.taken_words_spell_a_command.Goals as goal

pub returns : goal.returns
returns c = λ words taken.
    let s = spelled words taken in
    (s.asked, s.spells, s.within)
