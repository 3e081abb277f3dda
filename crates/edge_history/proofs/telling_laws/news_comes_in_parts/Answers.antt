use Rattle.edge_history.proofs.Telling.{news_none, news_in_parts}
use Rattle.edge_history.proofs.telling_laws.news_comes_in_parts.Goals as goal

pub returns-clause-none : goal.returns-clause-none
returns-clause-none c = news_none

pub returns-clause-parts : goal.returns-clause-parts
returns-clause-parts c = news_in_parts
