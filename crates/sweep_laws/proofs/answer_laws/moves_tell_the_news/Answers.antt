use Rattle.edge_history.proofs.Retaining.{AreEvents-none_fails}
use Rattle.sweep_laws.proofs.Moving.{moves_told, still_between}
use Rattle.sweep_laws.proofs.answer_laws.moves_tell_the_news.Goals as goal

pub returns : goal.returns
returns c = record {
  told = λ t events open0 open1 before after valid. moves_told t events open0 open1 before after (AreEvents-none_fails events valid);
  still = λ t u events low valid. still_between t u events low (AreEvents-none_fails events valid);
}
