use Rattle.row_reader.proofs.Spells.{lines_say_events, lines_say_punctuations, texts_spell_one}
use Rattle.row_reader.proofs.laws.lines_say_what_they_spell.Goals as goal

pub returns : goal.returns
returns c = record { events = lines_say_events; punctuations = lines_say_punctuations; one = texts_spell_one }
