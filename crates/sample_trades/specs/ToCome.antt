-- What is still to come of a sample.
use Rattle.std.specs.Prelude.{List, ◌∷◌, if◌then◌else◌}
use Rattle.sample_trades.specs.Trades.{Draws, lines_from}
use Rattle.sample_trades.specs.declared.line.SampleLine.{SampleLine}
use Rattle.sample_trades.specs.declared.line.SampleLine.TheVariants.{Punctuated}
use Rattle.sample_trades.specs.declared.sampling.Sample.{Sample}

abbrev pub draws : Sample → Draws
draws s = record { words = s.words; time = s.time; trades = s.trades }

-- a punctuation where it is due, and then the trades that are left
unfoldable pub to_come : Sample → List SampleLine
to_come s = if s.due then Punctuated s.time ∷ lines_from s.left (draws s) else lines_from s.left (draws s)
