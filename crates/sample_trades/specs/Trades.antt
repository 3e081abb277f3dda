-- The lines of a sample: which trades, and where a punctuation stands among them.
use Rattle.std.specs.Prelude.{ℕ, zero, suc, ◌+◌, ◌/◌, ◌%◌, List, [], ◌∷◌, ◌++◌, if◌then◌else◌, ◌==◌}
use Rattle.rand_pcg.specs.Lcg.{Lcg}
use Rattle.sample_trades.specs.Words.{word_of, words_after, words_of}
use Rattle.sample_trades.specs.declared.line.Trade.{Trade}
use Rattle.sample_trades.specs.declared.line.SampleLine.{SampleLine}
use Rattle.sample_trades.specs.declared.line.SampleLine.TheVariants.{Traded, Punctuated}

-- before a trade: the generator of the words to come, the time of the last trade, and how many trades there were
pub record Draws : Type 0 where
  pub words : Lcg
  pub time : ℕ
  pub trades : ℕ

-- at first
abbrev pub first_draws : ℕ → Draws
first_draws number = record { words = words_of number; time = 0; trades = 0 }

-- the generator after one, two and three words
abbrev pub second : Lcg → Lcg
second g = words_after g

abbrev pub third : Lcg → Lcg
third g = words_after (second g)

abbrev pub fourth : Lcg → Lcg
fourth g = words_after (third g)

-- a trade starts 1 to 3 after the last one: 1 more than the rest of the first word by 3
abbrev pub start_of : Draws → ℕ
start_of d = d.time + 1 + word_of d.words % 3

-- it lasts from 1 to 20, by the second word, is of one of five symbols, by the third, and has a price from 100 to 149 and a
-- quantity from 1 to 10, by the fourth. From the number 7: number 0 lasts from 1 to 4, of the symbol 0, 7 shares at 107
abbrev pub trade_of : Draws → Trade
trade_of d = record {
  id = d.trades;
  start = start_of d;
  end = start_of d + 1 + word_of (second d.words) % 20;
  symbol = word_of (third d.words) % 5;
  price = 100 + word_of (fourth d.words) % 50;
  quantity = 1 + word_of (fourth d.words) / 64 % 10;
}

abbrev pub after_trade : Draws → Draws
after_trade d = record { words = words_after (fourth d.words); time = start_of d; trades = d.trades + 1 }

-- after each hundredth trade stands a punctuation at its start
abbrev pub punctuation_at : Draws → List SampleLine
punctuation_at d = if d.trades % 100 == 0 then Punctuated d.time ∷ [] else []

-- the lines of so many trades more
abbrev pub lines_from : ℕ → Draws → List SampleLine
lines_from zero d = []
lines_from (suc n) d = Traded (trade_of d) ∷ (punctuation_at (after_trade d) ++ lines_from n (after_trade d))

-- the lines of so many trades from a number
unfoldable pub sample : ℕ → ℕ → List SampleLine
sample number events = lines_from events (first_draws number)
