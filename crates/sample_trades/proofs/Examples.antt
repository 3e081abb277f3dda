-- A sample and a summary, by the definitions alone.
use Rattle.std.proofs.Common.{◌≡◌, ◌++◌, [], ◌∷◌, codes, refl}
use Rattle.std.specs.Fmt.{digits}
use Rattle.sample_trades.specs.Words.{word_of, words_after, words_of}
use Rattle.sample_trades.specs.Trades.{sample}
use Rattle.sample_trades.specs.Lines.{sample_lines}
use Rattle.sample_trades.specs.Summary.{summary_of, summary_text}

two_trades : sample_lines 7 2 ≡ codes "trades,interval,1,4,0,S0,107,7" ∷ codes "trades,interval,3,16,1,S0,117,2" ∷ []
unfolding sample word_of words_after words_of digits
two_trades = refl

one_of_each : summary_text (summary_of (codes "out,start,1,inf\n" ++ codes "out,end,2,1\n" ++ codes "*,punct,3\n" ++ codes "*,punct,4")) ≡ codes "starts 1\nends 1\npuncts 1\n"
unfolding digits
one_of_each = refl
