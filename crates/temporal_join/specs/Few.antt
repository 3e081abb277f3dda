-- A sweep over few rows, each with its end.
use Rattle.std.specs.Prelude.{◌≡◌, ℕ, suc, ◌+◌, ◌≤◌, nat_eq, not, Bool, true, false, cond, List, [], ◌∷◌, ◌++◌}
use Rattle.tw_rows.specs.Bag.{SameBag, total}
use Rattle.tw_rows.specs.Instant.{inf}
use Rattle.tw_rows.specs.Event.{AreEvents}
use Rattle.tw_rows.specs.declared.edge.Edge.{Edge}
use Rattle.edge_history.specs.Balance.{news}
use Rattle.edge_history.specs.History.{CellEvent}
use Rattle.edge_history.specs.Opens.{singles, started_rows}
use Rattle.edge_history.specs.Order.{failing, is_from, is_below}
use Rattle.plan_model.specs.Keys.{paired_row}
use Rattle.sweep_laws.specs.Changes.{TakeAtMost}
use Rattle.sweep_laws.specs.Joining.{JoinReached}
use Rattle.sweep_laws.specs.Pairs.{Held}
use Rattle.sweep_laws.specs.Sweeps.{is_at, SyncsRise, IsDue, Tells}
use Rattle.temporal_join.specs.Joined.{join_meets, joins}
use Rattle.temporal_join.specs.Lives.{end_weight, ends_at, life_rows}
use Rattle.temporal_join.specs.declared.lives.Life.{Life}
use Rattle.temporal_join.specs.declared.few.JoinLives.{JoinLives}

-- the sync of the first edge, and infinity where there is none. Of edges at 4 and 7: 4
abbrev pub sync_ahead : List Edge → ℕ
sync_ahead [] = inf
sync_ahead (e ∷ es) = e.sync

-- the first edge is one of the time; it passes the test, where there is one. Edges at 4 and 7 begin with one of 4, and not of 7
abbrev pub first_at : ℕ → List Edge → Bool
first_at t [] = false
first_at t (e ∷ es) = nat_eq e.sync t

abbrev pub first_passes : (Edge → Bool) → List Edge → Bool
first_passes p [] = true
first_passes p (e ∷ es) = p e

-- no known end of the rows comes before the time, and no edge of the list tells of a time before it: with an end at 5 and a start
-- at 6, from 5 on
abbrev pub SideFrom : ℕ → List Life → List Edge → Type 0
SideFrom t lives edges = total (end_weight (λ e. cond (is_from t e) 0 1)) lives + failing (is_from t) (singles edges) ≡ 0

-- none of the rows ends at the time: with the ends 5 and 7, at 6
abbrev pub NoneEnds : ℕ → List Life → Type 0
NoneEnds t lives = failing (λ l. not (ends_at t l)) lives ≡ 0

-- the rows of each side have the words of its key
pub record AreLivesByKey (r : JoinLives) : Type 0 where
  pub left : r.left.columns ≡ r.left_key.items
  pub right : r.right.columns ≡ r.right_key.items

-- the key columns stay
pub record SameLiveKeys (old new : JoinLives) : Type 0 where
  pub left_key : new.left_key ≡ old.left_key
  pub right_key : new.right_key ≡ old.right_key
  pub left : new.left.columns ≡ old.left.columns
  pub right : new.right.columns ≡ old.right.columns

-- what an instant does with a side: with the edges that start at it, and the ends of rows, these single edges happen at it
pub record SidePassed (t : ℕ) (old new : List Life) (started now : List Edge) : Type 0 where
  pub parts : (w : Edge → ℕ) → total w now + total (end_weight w) new ≡ total (end_weight w) old + total w (singles started)
  pub at : failing (is_at t) now ≡ 0
  pub rows : TakeAtMost (life_rows old) (life_rows new) (started_rows now)

-- what an instant does with both sides
pub record InstantPassed (old new : JoinLives) (t : ℕ) (left_started right_started before after : List Edge) : Type 0 where
  pub left_now : List Edge
  pub right_now : List Edge
  pub left : SidePassed t old.left.lives new.left.lives left_started left_now
  pub right : SidePassed t old.right.lives new.right.lives right_started right_now
  pub swept : (a b : List CellEvent) → AreLivesByKey old → AreEvents a → AreEvents b → SameBag left_now (news t (suc t) a) → SameBag right_now (news t (suc t) b) →
      Held a b t (life_rows old.left.lives) (life_rows old.right.lives) →
      Held a b (suc t) (life_rows new.left.lives) (life_rows new.right.lives) × Tells (joins old.left_key.items old.right_key.items a b) t (suc t) before after

-- what a sweep from instant to instant does with a side: from the rows and the edges to come at first to those that are left, with the single
-- edges that happened before a time
pub record SideGone (to until : ℕ) (old new : List Life) (came left : List Edge) (due : List Edge) : Type 0 where
  pub parts : (w : Edge → ℕ) → total w due + (total (end_weight w) new + total w (singles left)) ≡ total (end_weight w) old + total w (singles came)
  pub early : failing (is_below until) due ≡ 0
  pub below : failing (is_below to) due ≡ 0
  pub order : SyncsRise 0 due
  pub rows : TakeAtMost (life_rows old) (life_rows new) (started_rows due)
  pub later : SideFrom until new left

-- what it does with both sides, on its way from one time to another
pub record Gone (old new : JoinLives) (from to until : ℕ) (left_came left_left right_came right_left before after : List Edge) : Type 0 where
  pub left_due : List Edge
  pub right_due : List Edge
  pub left : SideGone to until old.left.lives new.left.lives left_came left_left left_due
  pub right : SideGone to until old.right.lives new.right.lives right_came right_left right_due
  pub swept : (a b : List CellEvent) (lr rr : List Edge) → AreLivesByKey old → IsDue a from to (left_due ++ lr) → IsDue b from to (right_due ++ rr) →
      failing (is_from until) lr ≡ 0 → failing (is_from until) rr ≡ 0 → Held a b from (life_rows old.left.lives) (life_rows old.right.lives) →
      (v : ℕ) × (v ≤ until) × JoinReached (join_meets old.left_key.items old.right_key.items) (paired_row old.right_key.items) a b from v to lr rr (life_rows new.left.lives) (life_rows new.right.lives) before after

-- the same up to some time, which is not before `to` where the sweep is whole: up to 8, whole, it may have come to 9
pub record Went (old new : JoinLives) (from to : ℕ) (whole : Bool) (left_came left_left right_came right_left before after : List Edge) : Type 0 where
  pub until : ℕ
  pub gone : Gone old new from to until left_came left_left right_came right_left before after
  pub far : whole ≡ true → to ≤ until
