-- A sweep over edges from instant to instant: what is due, the instant that comes next, and what the answer tells so far.
use Rattle.std.specs.Prelude.{◌≡◌, ◌⊎◌, ℕ, ◌+◌, ◌*◌, ◌≤◌, nat_eq, nat_le, Bool, List, [], ◌∷◌}
use Rattle.tw_rows.specs.Instant.{inf}
use Rattle.tw_rows.specs.Bag.{SameBag, total}
use Rattle.tw_rows.specs.Event.{AreEvents}
use Rattle.tw_rows.specs.declared.edge.Edge.{Edge}
use Rattle.edge_history.specs.Order.{failing, rank, Rises}
use Rattle.edge_history.specs.History.{CellEvent}
use Rattle.edge_history.specs.Balance.{news}

-- the edge is one of the instant
abbrev pub is_at : ℕ → Edge → Bool
is_at t e = nat_eq e.sync t

-- the list does not begin with an edge of the instant; it does not begin before the instant; it begins at it
abbrev pub IsPast : ℕ → List Edge → Type 0
IsPast t [] = Unit {0}
IsPast t (e ∷ es) = e.sync ≡ t → ⊥

abbrev pub HeadFrom : ℕ → List Edge → Type 0
HeadFrom t [] = Unit {0}
HeadFrom t (e ∷ es) = t ≤ e.sync

abbrev pub StartsAt : ℕ → List Edge → Type 0
StartsAt t [] = ⊥
StartsAt t (e ∷ es) = e.sync ≡ t

-- t is the next instant of two lists: the lesser of the syncs with which they begin. With edges at 4 and 7 on the left and
-- at 6 on the right it is 4
pub record IsNext (t : ℕ) (left right : List Edge) : Type 0 where
  pub left_from : HeadFrom t left
  pub right_from : HeadFrom t right
  pub found : StartsAt t left ⊎ StartsAt t right

-- syncs never fall, from r on. Within one instant the order is free
abbrev pub SyncsRise : ℕ → List Edge → Type 0
SyncsRise r [] = Unit {0}
SyncsRise r (e ∷ es) = (r ≤ e.sync) × SyncsRise e.sync es

-- the edges are what happens to the events from one time on and before another, in the order of their syncs
pub record IsDue (events : List CellEvent) (from to : ℕ) (due : List Edge) : Type 0 where
  pub low : from ≤ to
  pub high : to ≤ inf
  pub lives : AreEvents events
  pub news_of : SameBag due (news from to events)
  pub order : SyncsRise 0 due

-- the edges are in order, and none has a rank above r
pub record InOrder (r : ℕ) (es : List Edge) : Type 0 where
  pub rises : Rises 0 es
  pub below : failing (λ e. nat_le (rank e) r) es ≡ 0

-- between the two answers it was told what happens to the events from one time on and before another, in order
pub record Tells (events : List CellEvent) (from to : ℕ) (before after : List Edge) : Type 0 where
  pub weigh : (w : Edge → ℕ) → total w after ≡ total w before + total w (news from to events)
  pub order : InOrder (2 * from) before → InOrder (2 * to) after
