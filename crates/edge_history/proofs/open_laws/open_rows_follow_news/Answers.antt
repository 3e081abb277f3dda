use Rattle.edge_history.proofs.Retaining.{AreEvents-none_fails}
use Rattle.edge_history.proofs.Opening.{opens_step, alive_is_open, opens_early, opens_known, opens_stay}
use Rattle.edge_history.proofs.open_laws.open_rows_follow_news.Goals as goal

pub returns : goal.returns
returns c = record {
  step = λ w t u events low valid. opens_step w t u events low (AreEvents-none_fails events valid);
  alive = alive_is_open;
  early = opens_early;
  known = λ c a b k. opens_known c a b k.low k.same;
  stay = λ t u events low valid none. opens_stay t u events low (AreEvents-none_fails events valid) none;
}
