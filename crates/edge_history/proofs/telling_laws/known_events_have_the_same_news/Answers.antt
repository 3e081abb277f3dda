use Rattle.edge_history.proofs.Telling.{news_same}
use Rattle.edge_history.proofs.Retaining.{AreEvents-none_fails}
use Rattle.edge_history.proofs.telling_laws.known_events_have_the_same_news.Goals as goal

pub returns : goal.returns
returns c = λ t d a b k.
    news_same t d a b k.low (AreEvents-none_fails a k.left_valid) (AreEvents-none_fails b k.right_valid) k.same
