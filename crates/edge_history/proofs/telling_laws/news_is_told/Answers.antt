use Rattle.edge_history.proofs.Telling.{told_more}
use Rattle.edge_history.proofs.Retaining.{AreEvents-none_fails}
use Rattle.edge_history.proofs.telling_laws.news_is_told.Goals as goal

pub returns : goal.returns
returns c =
    λ t d told answer events low high valid k up same. told_more t d told answer events low high
    (AreEvents-none_fails events valid) k up same
