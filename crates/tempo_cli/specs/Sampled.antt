-- What private contracts say of a query that was fed some of the generated lines.
use Rattle.std.specs.Prelude.{◌≡◌, ℕ, false, List, ◌++◌, map, length}
use Rattle.sample_trades.specs.Lines.{line_of}
use Rattle.sample_trades.specs.ToCome.{to_come}
use Rattle.sample_trades.specs.Counted.{Counted}
use Rattle.tempo_engine.specs.Fed.{last_number}
use Rattle.tempo_cli.specs.Feeding.{Asked, answers_to, Took}
use Rattle.tempo_cli.specs.declared.sampling.Sampling.{Sampling}

-- of all lines those given were fed, the others are to come, and the counts are those of the text so far
pub record Sampled (q : Asked) (all : List (List ℕ)) (s : Sampling) : Type 0 where
  pub header : s.header ≡ q.header
  pub none_before : last_number q.before ≡ 0
  pub none_passed : q.passed ≡ 0
  pub given : List (List ℕ)
  pub all_are : all ≡ given ++ map line_of (to_come s.sample)
  pub number : s.number ≡ length given
  pub engine : Took q given s.engine
  pub counted : Counted ((answers_to q).text given false) s.counts
