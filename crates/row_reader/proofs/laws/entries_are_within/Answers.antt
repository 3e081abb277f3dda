use Rattle.row_reader.proofs.Spells.{events_are_within, punctuations_are_within}
use Rattle.row_reader.proofs.laws.entries_are_within.Goals as goal

pub returns : goal.returns
returns c = record { events = events_are_within; punctuations = punctuations_are_within }
