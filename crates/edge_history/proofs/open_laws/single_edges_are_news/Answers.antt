use Rattle.edge_history.proofs.Opening.{singles_are_news}
use Rattle.edge_history.proofs.Waiting.{news_between}
use Rattle.edge_history.proofs.open_laws.single_edges_are_news.Goals as goal

pub returns : goal.returns
returns c = record { news = singles_are_news; between = news_between }
