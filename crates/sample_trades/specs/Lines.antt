-- The bytes of the lines of a sample.
use Rattle.std.specs.Prelude.{ℕ, List, [], ◌∷◌, ◌++◌, codes, decimal, map}
use Rattle.std.specs.List.{concat}
use Rattle.sample_trades.specs.declared.line.Trade.{Trade}
use Rattle.sample_trades.specs.declared.line.SampleLine.{SampleLine}
use Rattle.sample_trades.specs.declared.line.SampleLine.TheVariants.{Traded, Punctuated}
use Rattle.sample_trades.specs.Trades.{sample}

-- `trades,interval,1,4,0,S0,107,7`: its lifetime, and then number, symbol, price and quantity
abbrev pub trade_text : Trade → List ℕ
trade_text t = concat (codes "trades,interval," ∷ decimal t.start ∷ codes "," ∷ decimal t.end ∷ codes "," ∷ decimal t.id ∷ codes ",S" ∷ decimal t.symbol
    ∷ codes "," ∷ decimal t.price ∷ codes "," ∷ decimal t.quantity ∷ [])

-- a punctuation is `*,punct,200`
abbrev pub line_of : SampleLine → List ℕ
line_of (Traded trade) = trade_text trade
line_of (Punctuated time) = codes "*,punct," ++ decimal time

-- the lines of so many trades from a number, as bytes without their line feeds. Of one trade from 7: `trades,interval,1,4,0,S0,107,7`
abbrev pub sample_lines : ℕ → ℕ → List (List ℕ)
sample_lines number events = map line_of (sample number events)
