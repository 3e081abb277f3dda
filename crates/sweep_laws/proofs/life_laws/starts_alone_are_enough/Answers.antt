use Rattle.edge_history.proofs.Retaining.{AreEvents-none_fails}
use Rattle.sweep_laws.proofs.Unending.{starts_are_news, unending_valid, sessions_unending, clipped_unending}
use Rattle.sweep_laws.proofs.life_laws.starts_alone_are_enough.Goals as goal

pub returns : goal.returns
returns g c = record {
  news = λ c d events high valid. starts_are_news c d events high (AreEvents-none_fails events valid);
  lives = unending_valid;
  sessions = sessions_unending;
  clips = clipped_unending;
}
