use Rattle.edge_history.proofs.Retaining.{AreEvents-none_fails}
use Rattle.edge_history.proofs.Ahead.{ahead_history, ahead_stands, ahead_more, known_by_news}
use Rattle.edge_history.proofs.open_laws.ends_may_be_told_ahead.Goals as goal

pub returns : goal.returns
returns c = record {
  history = λ c h events high valid. ahead_history c h events high (AreEvents-none_fails events valid);
  stands = λ c h events high valid. ahead_stands c h events high (AreEvents-none_fails events valid);
  more = ahead_more;
  known = λ c a b high va vb. known_by_news c a b high (AreEvents-none_fails a va) (AreEvents-none_fails b vb);
}
