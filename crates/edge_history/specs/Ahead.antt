-- What is told of events where an answer may tell an end ahead, by an interval edge.
use Rattle.std.specs.Prelude.{◌≡◌, ℕ, ◌≤◌, List, filter}
use Rattle.tw_rows.specs.Instant.{inf}
use Rattle.tw_rows.specs.Bag.{SameBag, total}
use Rattle.tw_rows.specs.declared.edge.Edge.{Edge}
use Rattle.edge_history.specs.Order.{Rises, failing, is_real, is_below, is_from}
use Rattle.edge_history.specs.History.{CellEvent}
use Rattle.edge_history.specs.Balance.{news}
use Rattle.edge_history.specs.Opens.{singles}

-- the edges in order come below c, and tell of the events what happens below c; what they tell ahead are ends of the events.
-- Of the lifetime [3, 9) the interval edge from 3 to 9 tells below 5 the start, and the end at 9 ahead
pub record ToldAhead (c : ℕ) (h : List Edge) (events : List CellEvent) : Type 0 where
  pub order : Rises 0 h
  pub real : failing is_real h ≡ 0
  pub below : failing (is_below c) h ≡ 0
  pub told : SameBag (filter (is_below c) (singles h)) (news 0 c events)
  pub ahead : (w : Edge → ℕ) → total w (filter (is_from c) (singles h)) ≤ total w (news c inf events)
